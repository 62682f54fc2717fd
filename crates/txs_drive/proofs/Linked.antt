-- A call that failed leaves LINK to be written, and what is to be done is done before a session rests.
use Rattle.std.proofs.Common.{◌≡◌, inl, inr, ℕ, ℤ, Bool, true, false, List, [], ◌∷◌, ◌++◌, refl, sym, subst}
use Rattle.txs_outside.specs.declared.sut.Heard.{Heard}
use Rattle.txs_outside.specs.declared.sut.Heard.TheVariants as heard
use Rattle.txs_words.specs.declared.model.Model.{Model}
use Rattle.txs_session.specs.declared.doing.Doing.{Doing}
use Rattle.txs_session.specs.declared.doing.Doing.TheVariants.{Say, Dial, Wait, Send, HangUp, Idle, Quit}
use Rattle.txs_session.specs.declared.note.Note.{Note}
use Rattle.txs_session.specs.declared.note.Note.TheVariants as note
use Rattle.txs_session.specs.declared.note.Ending.TheVariants.{Link}
use Rattle.txs_session.specs.Session.{Run, State, Heeds, dial_told, send_told, answer_of, done}
use Rattle.txs_drive.specs.Course.{Event, Leads, stays, reading, doing, dialling, waiting, sending, notes_in, notes_of, IsNoted, AnyFailed}
use Rattle.txs_drive.specs.Served.{EndsAtRest}
use Rattle.txs_drive.proofs.Noted.{HasLink}

-- nothing is left to be done where a session rests
pub rested : (quits : Bool) (s : State) (more : List (List ℕ)) (es : List Event) → EndsAtRest quits s more es → s.todo ≡ []
rested true s more es h = h.0
rested false s more es h = h.0

link_in : (ds es : List Doing) → ds ≡ es → HasLink ds → HasLink es
link_in ds es e h = subst HasLink e h

noted_after : (d : Doing) (ns : List Note) → IsNoted (note.Ended Link) ns → IsNoted (note.Ended Link) (notes_of d ++ ns)
noted_after (Say n) ns h = inr h
noted_after Dial ns h = h
noted_after Wait ns h = h
noted_after (Send v) ns h = h
noted_after HangUp ns h = h
noted_after Idle ns h = h
noted_after Quit ns h = h

-- a doing writes LINK, or leaves it to be written
done_or_left : (d : Doing) (more : List Doing) (s : State) (ns : List Note) → HasLink (d ∷ more) → (HasLink (done d more s).todo → IsNoted (note.Ended Link) ns) → IsNoted (note.Ended Link) (notes_of d ++ ns)
done_or_left (Say n) more s ns (inl e) k = inl e
done_or_left (Say n) more s ns (inr h) k = inr (k h)
done_or_left Dial more s ns h k = k h
done_or_left Wait more s ns h k = k h
done_or_left (Send v) more s ns h k = k h
done_or_left HangUp more s ns h k = k h
done_or_left Idle more s ns h k = k h
done_or_left Quit more s ns h k = k h

-- LINK that is to be written is written before nothing is left to be done
link_written : (m : Model) (s t : State) (es : List Event) → Leads m s es t → t.todo ≡ [] → HasLink s.todo → IsNoted (note.Ended Link) (notes_in es)
link_written m s t es stays z l = absurd (link_in s.todo [] z l)
link_written m s t es (reading line e c h) z l = absurd (link_in s.todo [] e l)
link_written m s t es (doing {es = rest} d more e a h) z l =
    done_or_left d more s (notes_in rest) (link_in s.todo (d ∷ more) e l) (link_written m (done d more s) t rest h z)
link_written m s t es (dialling ok r e a h) z l = absurd (link_in s.todo (Dial ∷ []) e l)
link_written m s t es (waiting x r e a c h) z l = absurd (link_in s.todo (Wait ∷ []) e l)
link_written m s t es (sending v ok r e a h) z l = absurd (link_in s.todo (Send v ∷ []) e l)

-- ---- what a failed call leaves

dial_left : (ok : Bool) (r : Run) (s : State) → ok ≡ false → HasLink (dial_told ok r s).todo
dial_left true r s e = cc
dial_left false r s e = inl refl

send_left : (v : ℤ) (ok : Bool) (r : Run) (s : State) → ok ≡ false → HasLink (send_told v ok r s).todo
send_left v true r s e = cc
send_left v false r s e = inl refl

wait_left : (m : Model) (x : Heard) (r : Run) (s u : State) → x ≡ heard.Failed → Heeds m (answer_of x) r s u → HasLink u.todo
wait_left m (heard.Piece end bytes) r s u e h = cc
wait_left m heard.Nothing r s u e h = cc
wait_left m heard.Quiet r s u e h = cc
wait_left m (heard.Ended end) r s u e h = cc
wait_left m heard.Failed r s u e h = subst (λ (q : State). HasLink q.todo) (sym h) (inl refl)

-- where a call failed, LINK is written before nothing is left to be done
pub failed_linked : (m : Model) (s t : State) (es : List Event) → Leads m s es t → t.todo ≡ [] → AnyFailed es → IsNoted (note.Ended Link) (notes_in es)
failed_linked m s t es stays z f = absurd f
failed_linked m s t es (reading {u = u} {es = rest} line e c h) z (inl f) = absurd f
failed_linked m s t es (reading {u = u} {es = rest} line e c h) z (inr f) = failed_linked m u t rest h z f
failed_linked m s t es (doing {es = rest} d more e a h) z (inl f) = absurd f
failed_linked m s t es (doing {es = rest} d more e a h) z (inr f) = noted_after d (notes_in rest) (failed_linked m (done d more s) t rest h z f)
failed_linked m s t es (dialling {es = rest} ok r e a h) z (inl f) = link_written m (dial_told ok r s) t rest h z (dial_left ok r s f)
failed_linked m s t es (dialling {es = rest} ok r e a h) z (inr f) = failed_linked m (dial_told ok r s) t rest h z f
failed_linked m s t es (waiting {u = u} {es = rest} x r e a c h) z (inl f) = link_written m u t rest h z (wait_left m x r s u f c)
failed_linked m s t es (waiting {u = u} {es = rest} x r e a c h) z (inr f) = failed_linked m u t rest h z f
failed_linked m s t es (sending {es = rest} v ok r e a h) z (inl f) = link_written m (send_told v ok r s) t rest h z (send_left v ok r s f)
failed_linked m s t es (sending {es = rest} v ok r e a h) z (inr f) = failed_linked m (send_told v ok r s) t rest h z f
