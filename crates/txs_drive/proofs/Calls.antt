-- The calls on the system, over plain variables.
use Rattle.std.proofs.Common.{◌≡◌, ◌≤◌, ◌<◌, inl, inr, ℕ, ℤ, Bool, true, false, cond, nat_lt, List, [], ◌∷◌, ◌++◌, Option, None, Some, Result, Ok, Err, is_ok, IsErr, OnOk, refl, arith, subst, sym, ◌∙◌}
use Rattle.txs_outside.specs.declared.sut.SutEntry.{SutEntry}
use Rattle.txs_outside.specs.declared.sut.SutCall.TheVariants as call
use Rattle.txs_outside.specs.Causes.{Rose}
use Rattle.txs_outside.specs.Known.{Adds}
use Rattle.txs_session.specs.declared.doing.Doing.TheVariants.{Dial, Wait, Send, HangUp, Idle}
use Rattle.txs_session.specs.declared.note.Seen.{Seen}
use Rattle.txs_session.specs.declared.answer.Answer.{Answer}
use Rattle.txs_session.specs.declared.answer.Answer.TheVariants as answer
use Rattle.txs_words.specs.declared.model.Model.{Model}
use Rattle.txs_session.specs.Lines.{sent_line}
use Rattle.txs_session.specs.Session.{Run, State, dial_told, send_told, Heeds, Judges}
use Rattle.txs_session.specs.Ready.{ToldBy, HeedsBy}
use Rattle.txs_drive.specs.Course.{dials, waits, sends, Leads, stays, dialling, waiting, sending, entry, ends_of}
use Rattle.txs_drive.specs.inner.CarriedOut.{CallAnswered, WaitAnswered, rank}

not_false : (b : Bool) → (b ≡ false → ⊥) → b ≡ true
not_false true h = refl
not_false false h = absurd (h refl)

-- what holds of a call that succeeded
pub ok_of : {A E P : Type 0} (r : Result A E) (b : Bool) → b ≡ is_ok r → b ≡ true → OnOk r P → P
ok_of (Ok x) b e h p = p
ok_of (Err x) true e h p = cc
ok_of (Err x) false e h p = cc

pub err_of : {A E : Type 0} (r : Result A E) → is_ok r ≡ false → IsErr r
err_of (Ok x) h = cc
err_of (Err e) h = refl

told_run : (r : Option Run) (go : Run → State) (t : State) → ToldBy r go t → (x : Run) × (r ≡ Some x) × (t ≡ go x)
told_run None go t h = absurd h
told_run (Some x) go t h = (x, refl, h)

-- the ends were dialled, or not
pub called_dial : (m : Model) (s t : State) (u0 u1 : Option (List SutEntry)) (h0 h1 : Option ℕ) (f0 f1 : ℕ) (ok : Bool)
    → s.todo ≡ Dial ∷ [] → ToldBy s.run (λ r. dial_told ok r s) t → Adds u0 u1 (entry h0 (call.Dial (ends_of m) ok) ∷ []) → h1 ≡ h0 → f0 ≤ f1 → (ok ≡ false → Rose f0 f1) → (ok ≡ true → f1 ≡ f0)
    → CallAnswered m s t u0 u1 h0 h1 f0 f1
called_dial m s t u0 u1 h0 h1 f0 f1 ok e told a h l c k =
    let r = told_run s.run (λ r. dial_told ok r s) t told in
    record {
      event = dials ok;
      leads = dialling ok r.0 e r.1 (subst (λ (x : State). Leads m (dial_told ok r.0 s) [] x) (sym r.2) stays);
      read = refl;
      silent = refl;
      stays = refl;
      calls = a;
      hung = h;
      later = l;
      caused = λ x. elim x [ inl y ↦ c y | inr y ↦ absurd y ];
      calm = λ n. k (not_false ok (λ z. n (inl z)));
    }

-- a line was sent, or not
pub called_send : (m : Model) (s t : State) (u0 u1 : Option (List SutEntry)) (h0 h1 : Option ℕ) (f0 f1 : ℕ) (v : ℤ) (ok : Bool)
    → s.todo ≡ Send v ∷ [] → ToldBy s.run (λ r. send_told v ok r s) t → Adds u0 u1 (entry h0 (call.Send 0 (sent_line v) ok) ∷ []) → h1 ≡ h0 → f0 ≤ f1 → (ok ≡ false → Rose f0 f1) → (ok ≡ true → f1 ≡ f0)
    → CallAnswered m s t u0 u1 h0 h1 f0 f1
called_send m s t u0 u1 h0 h1 f0 f1 v ok e told a h l c k =
    let r = told_run s.run (λ r. send_told v ok r s) t told in
    record {
      event = sends v ok;
      leads = sending v ok r.0 e r.1 (subst (λ (x : State). Leads m (send_told v ok r.0 s) [] x) (sym r.2) stays);
      read = refl;
      silent = refl;
      stays = refl;
      calls = a;
      hung = h;
      later = l;
      caused = λ x. elim x [ inl y ↦ c y | inr y ↦ absurd y ];
      calm = λ n. k (not_false ok (λ z. n (inl z)));
    }

heeds_run : (m : Model) (x : Answer) (r : Option Run) (s t : State) → HeedsBy m x r s t → (q : Run) × (r ≡ Some q) × Heeds m x q s t
heeds_run m x None s t h = absurd h
heeds_run m x (Some q) s t h = (q, refl, h)

-- what the system told was heeded
pub called_wait : (m : Model) (s t : State) (u0 u1 : Option (List SutEntry)) (h0 h1 : Option ℕ) (f0 f1 : ℕ) (x : Answer)
    → s.todo ≡ Wait ∷ [] → HeedsBy m x s.run s t → WaitAnswered u0 u1 h0 f0 f1 x → h1 ≡ h0 → CallAnswered m s t u0 u1 h0 h1 f0 f1
called_wait m s t u0 u1 h0 h1 f0 f1 x e heeds w h =
    let r = heeds_run m x s.run s t heeds in
    record {
      event = waits w.heard;
      leads = waiting w.heard r.0 e r.1 (subst (λ (y : Answer). Heeds m y r.0 s t) w.says r.2) stays;
      read = refl;
      silent = refl;
      stays = refl;
      calls = w.called;
      hung = h;
      later = w.later;
      caused = λ x. elim x [ inl y ↦ w.caused y | inr y ↦ absurd y ];
      calm = λ n. w.calm (λ z. n (inl z));
    }

-- ---- what is left to be done after a wait

rank-hanging : (b : Bool) → rank (cond b (HangUp ∷ []) [] ++ Idle ∷ []) < 3
rank-hanging true = omega arith
rank-hanging false = omega arith

by_state : (s t : State) (n : ℕ) → t ≡ s → rank s.todo < n → rank t.todo < n
by_state s t n e h = subst (λ (x : State). rank x.todo < n) (sym e) h

judged_rank : (m : Model) (x : Seen) (r : Run) (s t : State) → Judges m x r s t → rank t.todo < 6
judged_rank m x r s t (inl h) = by_state _ t 6 h.1 (omega arith)
judged_rank m x r s t (inr h) = by_state _ t 6 h.1 (omega (arith, rank-hanging (nat_lt 0 r.dialled)))

pub heeded_rank : (m : Model) (x : Answer) (r : Option Run) (s t : State) → HeedsBy m x r s t → rank t.todo < 6
heeded_rank m x None s t h = absurd h
heeded_rank m (answer.Number v) (Some r) s t h = judged_rank m _ r s t h
heeded_rank m answer.Quiet (Some r) s t h = judged_rank m _ r s t h
heeded_rank m answer.Breaks (Some r) s t h = by_state _ t 6 h (omega (arith, rank-hanging (nat_lt 0 r.dialled)))
heeded_rank m answer.Later (Some r) s t h = by_state _ t 6 h (omega (arith, rank-hanging (nat_lt 0 r.dialled)))

sent_rank : (v : ℤ) (ok : Bool) (r : Run) (s : State) → rank (send_told v ok r s).todo < 6
sent_rank v true r s = omega arith
sent_rank v false r s = omega (arith, rank-hanging (nat_lt 0 r.dialled))

pub told_rank : (v : ℤ) (ok : Bool) (r : Option Run) (s t : State) → ToldBy r (λ q. send_told v ok q s) t → rank t.todo < 6
told_rank v ok None s t h = absurd h
told_rank v ok (Some r) s t h = by_state _ t 6 h (sent_rank v ok r s)

-- ---- the dialled ends

pub dial_ready : {A E : Type 0} (b : Bool) (r : Result A E) (n d k : ℕ) → b ≡ is_ok r → OnOk r (n ≡ k) → k ≡ 1 → d ≡ cond b 1 0 → 0 < d → n ≡ d
dial_ready true (Ok x) n d k e o one f h = o ∙ (one ∙ sym f)
dial_ready true (Err x) n d k e o one f h = cc
dial_ready false r n d k e o one f h = absurd (omega (arith, f, h))

pub dialled_same : (n n0 d d0 : ℕ) → n ≡ n0 → d ≡ d0 → (0 < d0 → n0 ≡ d0) → 0 < d → n ≡ d
dialled_same n n0 d d0 e f h lt = e ∙ (h (omega (arith, f, lt)) ∙ sym f)
