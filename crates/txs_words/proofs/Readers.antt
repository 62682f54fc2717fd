-- What the calls that read behaviours answer, put together.
use Rattle.std.proofs.Common.{◌≡◌, ℕ, zero, suc, ◌+◌, ◌-◌, ◌*◌, ◌<◌, ◌≤◌, false, cond, List, [], ◌∷◌, ◌++◌, length, take, drop, get_or, take_all, Option, Some, None, Result, Err, sym, ◌∙◌, ap, subst, arith, codes, bytes_eq}
use Rattle.txs_terms.specs.Term.{Position, Term, stop}
use Rattle.txs_words.specs.declared.load_fault.LoadFault.{LoadFault}
use Rattle.txs_words.specs.declared.load_fault.LoadFault.TheVariants.{Later, NoMemory}
use Rattle.txs_words.specs.Form.{tight, loose}
use Rattle.txs_words.specs.inner.Parsing.{Reads, Front, Reader, position_read, binder, channel_read, prefixed, step_read, prefix_read, grouped, choice_read, chosen, front_read}
use Rattle.txs_values.proofs.Tests.{bytes-eq, yes, no}

-- what is read of the words after the name of a prefix, taken apart
pub prefix-words : (tightly : Reader) (i o : List ℕ) (bound bound' : List (List ℕ)) (name : List ℕ) (ws : List (List ℕ)) (s w a s' w' a' : List ℕ) (more : List (List ℕ)) → 3 ≤ length ws
    → s ≡ get_or ws 0 s → w ≡ get_or ws 1 w → a ≡ get_or ws 2 a → s' ≡ s → w' ≡ w → bound' ≡ bound → a' ≡ a → more ≡ take (length ws - 3) (drop 3 ws) → a' ≡ codes ">->"
    → prefix_read tightly i o bound name ws ≡ step_read (channel_read i o name) (position_read bound' s' w') (λ p. tightly (bound ++ binder p ∷ []) more)
prefix-words tightly i o bound bound' name [] s w a s' w' a' more k e0 e1 e2 f0 f1 fb f2 er ea = absurd (omega arith)
prefix-words tightly i o bound bound' name (x ∷ []) s w a s' w' a' more k e0 e1 e2 f0 f1 fb f2 er ea = absurd (omega arith)
prefix-words tightly i o bound bound' name (x ∷ y ∷ []) s w a s' w' a' more k e0 e1 e2 f0 f1 fb f2 er ea = absurd (omega arith)
prefix-words tightly i o bound bound' name (x ∷ y ∷ v ∷ rest) s w a s' w' a' more k e0 e1 e2 f0 f1 fb f2 er ea =
    let g0 : x ≡ s' = sym (f0 ∙ e0) in
    let g1 : y ≡ w' = sym (f1 ∙ e1) in
    let g2 : v ≡ codes ">->" = sym (f2 ∙ e2) ∙ ea in
    let len : length (x ∷ y ∷ v ∷ rest) - 3 ≡ length rest = omega arith in
    let gr : rest ≡ more = sym (er ∙ (ap (λ (k : ℕ). take k rest) len ∙ take_all (length rest) rest (omega arith))) in
    yes (bytes_eq v (codes ">->")) (step_read (channel_read i o name) (position_read bound x y) (λ p. tightly (bound ++ binder p ∷ []) rest)) None (bytes-eq v (codes ">->") g2)
    ∙ (ap (λ (q : List ℕ). step_read (channel_read i o name) (position_read bound q y) (λ p. tightly (bound ++ binder p ∷ []) rest)) g0
    ∙ (ap (λ (q : List ℕ). step_read (channel_read i o name) (position_read bound s' q) (λ p. tightly (bound ++ binder p ∷ []) rest)) g1
    ∙ (ap (λ (q : List (List ℕ)). step_read (channel_read i o name) (position_read q s' w') (λ p. tightly (bound ++ binder p ∷ []) rest)) (sym fb)
    ∙ ap (λ (q : List (List ℕ)). step_read (channel_read i o name) (position_read bound' s' w') (λ p. tightly (bound ++ binder p ∷ []) q)) gr)))

-- a position that is not read
pub stopped : {X Y : Type 0} (view : X → Position) (seen : Y → Front) (c : ℕ) (oc : Option ℕ) (op : Option Position) (behind : Position → Option Front) (fault : LoadFault) (read : Option Front)
    → read ≡ step_read oc op behind → Some c ≡ oc → Reads view (Err fault) op → Reads seen (Err fault) read
stopped view seen c oc op behind Later read q e h = q ∙ (ap (λ (z : Option ℕ). step_read z op behind) (sym e) ∙ ap (λ (z : Option Position). step_read (Some c) z behind) h)
stopped view seen c oc op behind NoMemory read q e h = tt

-- a position that is read, and what is after it
pub stepped : {Y : Type 0} (seen : Y → Front) (r : Result Y LoadFault) (c : ℕ) (p : Position) (oc : Option ℕ) (op : Option Position) (behind : Position → Option Front) (read : Option Front)
    → read ≡ step_read oc op behind → Some c ≡ oc → op ≡ Some p → Reads seen r (prefixed c p (behind p)) → Reads seen r read
stepped seen r c p oc op behind read q e f h =
    subst (λ (z : Option Front). Reads seen r z) (sym (q ∙ (ap (λ (z : Option ℕ). step_read z op behind) (sym e) ∙ ap (λ (z : Option Position). step_read (Some c) z behind) f))) h

-- what is read of a word that is neither STOP nor a parenthesis, and of those after it
tight-words : (k : ℕ) (i o : List ℕ) (bound ws : List (List ℕ)) (w w' stops opens : List ℕ) (more : List (List ℕ)) → 1 ≤ length ws → w ≡ get_or ws 0 w → w' ≡ w → more ≡ take (length ws - 1) (drop 1 ws)
    → stops ≡ codes "STOP" → bytes_eq w' stops ≡ false → opens ≡ codes "(" → bytes_eq w' opens ≡ false
    → (front_read (suc k) tight i o bound ws ≡ prefix_read (front_read k tight i o) i o bound w' more) × (length ws ≡ length more + 1)
tight-words k i o bound [] w w' stops opens more l e f er es ns eo no' = absurd (omega arith)
tight-words k i o bound (x ∷ rest) w w' stops opens more l e f er es ns eo no' =
    let g : w' ≡ x = f ∙ e in
    let len : length (x ∷ rest) - 1 ≡ length rest = omega arith in
    let gr : rest ≡ more = sym (er ∙ (ap (λ (k : ℕ). take k rest) len ∙ take_all (length rest) rest (omega arith))) in
    let s : bytes_eq x (codes "STOP") ≡ false = ap (λ (z : List ℕ). bytes_eq z (codes "STOP")) (sym g) ∙ (ap (bytes_eq w') (sym es) ∙ ns) in
    let p : bytes_eq x (codes "(") ≡ false = ap (λ (z : List ℕ). bytes_eq z (codes "(")) (sym g) ∙ (ap (bytes_eq w') (sym eo) ∙ no') in
    let gl : length rest ≡ length more = ap (λ (z : List (List ℕ)). length z) gr in (
      no (bytes_eq x (codes "STOP")) (Some (stop, rest)) (cond (bytes_eq x (codes "(")) (grouped (front_read k loose i o bound rest)) (prefix_read (front_read k tight i o) i o bound x rest)) s
          ∙ (no (bytes_eq x (codes "(")) (grouped (front_read k loose i o bound rest)) (prefix_read (front_read k tight i o) i o bound x rest) p
          ∙ (ap (λ (z : List ℕ). prefix_read (front_read k tight i o) i o bound z rest) (sym g)
          ∙ ap (λ (z : List (List ℕ)). prefix_read (front_read k tight i o) i o bound w' z) gr)),
      omega (arith, gl),
    )

pub tight-steps : {Y : Type 0} (seen : Y → Front) (r : Result Y LoadFault) (i o : List ℕ) (bound ws : List (List ℕ)) (w w' stops opens : List ℕ) (more : List (List ℕ)) → 1 ≤ length ws → w ≡ get_or ws 0 w → w' ≡ w → more ≡ take (length ws - 1) (drop 1 ws)
    → stops ≡ codes "STOP" → bytes_eq w' stops ≡ false → opens ≡ codes "(" → bytes_eq w' opens ≡ false
    → ((k : ℕ) → 2 * length more ≤ k → Reads seen r (prefix_read (front_read k tight i o) i o bound w' more)) → (k : ℕ) → 2 * length ws ≤ k → Reads seen r (front_read k tight i o bound ws)
tight-steps seen r i o bound ws w w' stops opens more l e f er es ns eo no' h zero q = absurd (omega arith)
tight-steps seen r i o bound ws w w' stops opens more l e f er es ns eo no' h (suc k) q =
    let g = tight-words k i o bound ws w w' stops opens more l e f er es ns eo no' in
    subst (λ (z : Option Front). Reads seen r z) (sym g.0) (h k (omega (arith, g.1, q)))

pub loose-steps : {Y : Type 0} (seen : Y → Front) (r : Result Y LoadFault) (i o : List ℕ) (bound bound' ws : List (List ℕ)) (a : Term) (rest : List (List ℕ)) → bound' ≡ bound → length rest ≤ length ws
    → ((k : ℕ) → 2 * length ws ≤ k → front_read k tight i o bound ws ≡ Some (a, rest))
    → ((k : ℕ) → 2 * length rest ≤ k → Reads seen r (choice_read (front_read k loose i o bound') a rest))
    → (k : ℕ) → 2 * length ws < k → Reads seen r (front_read k loose i o bound ws)
loose-steps seen r i o bound bound' ws a rest e l f g zero q = absurd (omega arith)
loose-steps seen r i o bound bound' ws a rest e l f g (suc k) q =
    subst (λ (z : Option Front). Reads seen r (chosen (front_read k loose i o bound) z)) (sym (f k (omega arith)))
    (subst (λ (z : List (List ℕ)). Reads seen r (choice_read (front_read k loose i o z) a rest)) e (g k (omega arith)))
