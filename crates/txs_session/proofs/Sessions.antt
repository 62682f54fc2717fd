-- What a session's calls come to, over plain variables.
use Rattle.std.proofs.Common.{◌≡◌, ◌<◌, ◌↔◌, ◌+◌, ℕ, ℤ, true, nat_lt, List, [], ◌∷◌, ◌++◌, length, Option, None, Some, ap, sym, ◌∙◌, inl, inr, arith, cond}
use Rattle.std.specs.Option.{option_map}
use Rattle.std.proofs.lemmas.Bool.Decides.{nat_tests}
use Rattle.txs_session.specs.declared.run.Run as rust_run
use Rattle.txs_words.specs.declared.model.Model.{Model}
use Rattle.txs_session.specs.declared.doing.Doing.{Doing}
use Rattle.txs_session.specs.declared.doing.Doing.TheVariants.{Say, Send, HangUp, Idle}
use Rattle.txs_session.specs.declared.note.Note.TheVariants as note
use Rattle.txs_session.specs.declared.note.Ending.TheVariants.{Fail}
use Rattle.txs_session.specs.declared.note.Seen.{Seen}
use Rattle.txs_session.specs.declared.note.Seen.TheVariants as seen
use Rattle.txs_session.specs.Session.{Run, State, does, goes_on, seen_run, over_run, hanging, seen_note, IfGoing, Stimulates}
use Rattle.txs_session.specs.Ready.{run_of, IsGoing, AllowedNow, IsObserved, next_number, ToldBy, Judged, HeedsBy}
use Rattle.txs_session.specs.declared.answer.Answer.TheVariants as answer

pub hanging-some : (n : ℕ) → 0 < n → hanging n ≡ HangUp ∷ []
hanging-some n h = let e : nat_lt 0 n ≡ true = grind (arith, nat_tests) in ap (λ b. cond b (HangUp ∷ []) []) e

-- an action that the rules do not allow is refused
pub refuses : (m : Model) (v : ℤ) (r : Option rust_run.Run) (s t : State) (n : ℕ) → IsGoing (option_map run_of r) → (0 < n) ↔ AllowedNow m (seen.In v) r → (0 < n → ⊥)
    → t ≡ does (Say note.NotAllowed ∷ Idle ∷ []) s → IfGoing (option_map run_of r) s (Stimulates m v s) t
refuses m v None s t n g a never e = absurd g
refuses m v (Some r) s t n g a never e = inr (g.0, inr (λ may. never (a.1 may), e))

-- an action that they allow is sent
pub stimulates : (m : Model) (v : ℤ) (r : Option rust_run.Run) (s t : State) (n : ℕ) → IsGoing (option_map run_of r) → (0 < n) ↔ AllowedNow m (seen.In v) r → 0 < n
    → t ≡ does (Send v ∷ []) s → IfGoing (option_map run_of r) s (Stimulates m v s) t
stimulates m v None s t n g a some e = absurd g
stimulates m v (Some r) s t n g a some e = inr (g.0, inl (a.0 some, e))

-- an observation that the rules do not allow is a failure
pub fails : (m : Model) (x : Seen) (r : Option rust_run.Run) (s t : State) (n : ℕ) → IsObserved x → IsGoing (option_map run_of r) → (0 < n) ↔ AllowedNow m x r → (0 < n → ⊥)
    → ToldBy (option_map run_of r) (λ q. goes_on (over_run (seen_run x q)) (Say (seen_note (next_number (option_map run_of r)) x) ∷ Say (note.Ended Fail) ∷ HangUp ∷ Idle ∷ []) s) t
    → Judged m x (option_map run_of r) s t
fails m x None s t n o g a never e = absurd g
fails m (seen.In v) (Some r) s t n o g a never e = absurd o
fails m (seen.Out v) (Some r) s t n o g a never e =
    inr (λ may. never (a.1 may), e ∙ ap (λ (h : List Doing). goes_on (over_run (seen_run (seen.Out v) (run_of r))) (Say (note.Out (length r.trace.items + 1) v) ∷ Say (note.Ended Fail) ∷ (h ++ Idle ∷ [])) s) (sym (hanging-some r.dialled g.1)))
fails m seen.Quiet (Some r) s t n o g a never e =
    inr (λ may. never (a.1 may), e ∙ ap (λ (h : List Doing). goes_on (over_run (seen_run seen.Quiet (run_of r))) (Say (note.Quiet (length r.trace.items + 1)) ∷ Say (note.Ended Fail) ∷ (h ++ Idle ∷ [])) s) (sym (hanging-some r.dialled g.1)))

-- one that they allow is kept
pub keeps : (m : Model) (x : Seen) (r : Option rust_run.Run) (s t : State) (n : ℕ) → IsObserved x → IsGoing (option_map run_of r) → (0 < n) ↔ AllowedNow m x r → 0 < n
    → ToldBy (option_map run_of r) (λ q. goes_on (seen_run x q) (Say (seen_note (next_number (option_map run_of r)) x) ∷ Idle ∷ []) s) t
    → Judged m x (option_map run_of r) s t
keeps m x None s t n o g a some e = absurd g
keeps m (seen.In v) (Some r) s t n o g a some e = absurd o
keeps m (seen.Out v) (Some r) s t n o g a some e = inl (a.0 some, e)
keeps m seen.Quiet (Some r) s t n o g a some e = inl (a.0 some, e)

-- an action that was heard is judged
pub heeds_number : (m : Model) (v : ℤ) (r : Option Run) (s t : State) → Judged m (seen.Out v) r s t → HeedsBy m (answer.Number v) r s t
heeds_number m v None s t h = h
heeds_number m v (Some r) s t h = h

-- and so is quiescence
pub heeds_quiet : (m : Model) (r : Option Run) (s t : State) → Judged m seen.Quiet r s t → HeedsBy m answer.Quiet r s t
heeds_quiet m None s t h = h
heeds_quiet m (Some r) s t h = h
