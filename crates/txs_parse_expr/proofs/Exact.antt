-- What the reader says is the answer, and no other is one.
use Rattle.std.proofs.Common.{◌≡◌, ◌≤◌, ◌+◌, ◌-◌, ◌↔◌, ℕ, zero, suc, ◌⊎◌, inl, inr, [], ◌∷◌, ◌++◌, length, drop, Result, Ok, Err, refl, sym, ap, subst, ◌∙◌, arith, append_assoc, length-append}
use Rattle.std.proofs.lemmas.List.{append-nil}
use Rattle.txs_lexer.specs.declared.token.Token.{Token}
use Rattle.txs_syntax.specs.declared.ast.Ast.{Ast}
use Rattle.txs_syntax.specs.Grammar.{Tokens, Marked, tokens_of, expr, SpellsAt, Spells}
use Rattle.txs_syntax.specs.Places.{Begins, Longest, Shallow, SpellsWithin, Within, TooDeep, depth_limit}
use Rattle.txs_parse_expr.specs.Reader.{Outcome, ok, bad, deep, Reader, readers}
use Rattle.txs_parse_expr.specs.declared.fault.ParseFault.{ParseFault}
use Rattle.txs_parse_expr.specs.declared.fault.ParseFault.TheVariants.{Unexpected, Deep, NoMemory}
use Rattle.txs_parse_expr.specs.declared.fault.ParseFault.TheVariants as parse
use Rattle.txs_parse_expr.specs.declared.fault.Stop.{Stop}
use Rattle.txs_parse_expr.specs.declared.fault.Stop.TheVariants as stop
use Rattle.txs_parse_expr.specs.Answer.{offset, IsAnswer, IsExact}
use Rattle.txs_parse_expr.specs.View.{Stopped, fault}
use Rattle.txs_parse_expr.proofs.Sound.{Fits, Found, tokens_append}
use Rattle.txs_parse_expr.proofs.Levels.{sound_readers}
use Rattle.txs_parse_expr.proofs.Complete.{Ends, read}
use Rattle.txs_parse_expr.proofs.Meaning.{spells, spelled_at, at_end, not_shallow, one_tree}

-- the answer for the tokens, by what is left of them
abbrev pub Answers : ℕ → Tokens → Outcome Ast → Type 0
Answers d ts (ok tree rest) = (p : Tokens) × Longest ts p rest × SpellsWithin d tree p
Answers d ts (bad rest) = (p : Tokens) × Longest ts p rest × ((tree : Ast) → Spells tree p → ⊥) × Within d p
Answers d ts (deep rest) = (p more : Tokens) × (c : Token) × (ts ≡ p ++ c ∷ more) × TooDeep d p c × (rest ≡ c ∷ more)

-- ---- what the reader says is an answer

clash_ok : (limit : ℕ) (o : Outcome Ast) (a b : Ast) (u : Marked) (c : Token) (w : Tokens) → o ≡ ok a (c ∷ w) → Ends limit o b u [] → ⊥
clash_ok limit o a b u c w e (inl f) = let k : ok a (c ∷ w) ≡ ok b [] = sym e ∙ f.0 in cc
clash_ok limit o a b u c w e (inr x) = let k : ok a (c ∷ w) ≡ deep (x.token ∷ (tokens_of x.rest ++ [])) = sym e ∙ x.stops in cc

clash_bad : (limit : ℕ) (o : Outcome Ast) (b : Ast) (u : Marked) (w : Tokens) → o ≡ bad w → Ends limit o b u [] → ⊥
clash_bad limit o b u w e (inl f) = let k : bad w ≡ ok b [] = sym e ∙ f.0 in cc
clash_bad limit o b u w e (inr x) = let k : bad w ≡ deep (x.token ∷ (tokens_of x.rest ++ [])) = sym e ∙ x.stops in cc

-- the tokens of an expression are read to their end, or to the first that is too deep
ends_spelled : (limit d : ℕ) (b : Ast) (ts : Tokens) → Spells b ts → (u : Marked) × Ends limit (read expr (limit - d) ts) b u []
ends_spelled limit d b ts s =
    let m = spelled_at d b ts s in (m.marked, subst (λ v. Ends limit (read expr (limit - d) v) b m.marked []) m.is (at_end limit d b m.marked m.spelled))

-- where nothing that begins with one token more is read
module _ (limit d : ℕ) (ts u r : Tokens) (split : ts ≡ u ++ r) (begins : Begins u)
    (stuck : (c : Token) (w : Tokens) → Fits (c ∷ w) r → (b : Ast) (v : Marked) → Ends limit (read expr (limit - d) (u ++ (c ∷ w))) b v [] → ⊥) where
  longest : Longest ts u r
  longest = record {
    split = split;
    begins = begins;
    no_longer = λ c v e b.
        let q : (u ++ c ∷ []) ++ b.1 ≡ u ++ (c ∷ b.1) = append_assoc u (c ∷ []) b.1 in
        let fits : Fits (c ∷ b.1) r = subst (Fits (c ∷ b.1)) (sym e) (inr refl) in
        let m = ends_spelled limit d b.0 (u ++ (c ∷ b.1)) (subst (Spells b.0) q b.2) in
        stuck c b.1 fits b.0 m.0 m.1;
  }

begins_so : (d : ℕ) (t : Ast) (u more : Marked) → SpellsAt expr d t (u ++ more) → Begins (tokens_of u)
begins_so d t u more s = (t, tokens_of more, subst (Spells t) (tokens_append u more) (spells d t (u ++ more) s))

module _ (d : ℕ) where
  abbrev reader : Reader
  reader = read expr (depth_limit - d)

  answered : (ts : Tokens) (o : Outcome Ast) → Found depth_limit reader (SpellsAt expr d) ts o → Answers d ts o
  answered ts (ok a r) x = (
    tokens_of x.used,
    longest depth_limit d ts (tokens_of x.used) r x.split (a, [], subst (Spells a) (sym (append-nil (tokens_of x.used))) (spells d a x.used x.spelled))
        (λ c w f b v e. clash_ok depth_limit (reader (tokens_of x.used ++ (c ∷ w))) a b v c w (x.local (c ∷ w) f) e),
    (x.used, x.spelled, refl, x.shallow),
  )
  answered ts (bad r) x = (
    tokens_of x.used,
    longest depth_limit d ts (tokens_of x.used) r x.split (begins_so d x.begins.0 x.used x.begins.1 x.begins.2)
        (λ c w f b v e. clash_bad depth_limit (reader (tokens_of x.used ++ (c ∷ w))) b v (c ∷ w) (x.local (c ∷ w) f) e),
    (λ t s.
        let k : Spells t (tokens_of x.used ++ []) = subst (Spells t) (sym (append-nil (tokens_of x.used))) s in
        let m = ends_spelled depth_limit d t (tokens_of x.used ++ []) k in
        clash_bad depth_limit (reader (tokens_of x.used ++ [])) t m.0 [] (x.local [] (inl refl)) m.1),
    (x.begins.0, x.used, x.begins.1, x.begins.2, refl, x.shallow),
  )
  answered ts (deep r) x = (
    tokens_of x.used,
    x.rest,
    x.token,
    x.split ∙ ap (λ v. tokens_of x.used ++ v) x.next,
    (x.begins.0, x.used, x.begins.1, x.depth, subst (SpellsAt expr d x.begins.0) (append_assoc x.used ((x.depth, x.token) ∷ []) x.begins.1) x.begins.2, refl, x.shallow, x.many),
    x.next,
  )

  found : (ts : Tokens) → Found depth_limit reader (SpellsAt expr d) ts (reader ts)
  found ts = (sound_readers depth_limit (depth_limit - d) d refl).expr_ok ts

  pub reader_answers : (ts : Tokens) → Answers d ts (reader ts)
  reader_answers ts = answered ts (reader ts) (found ts)

-- ---- and no other is one

-- two runs from the front of the same tokens: the second is no longer, or the first goes on with a token of it
abbrev Compared : Tokens → Tokens → Tokens → Type 0
Compared p r q = ((w : Tokens) × (p ≡ q ++ w)) ⊎ ((c : Token) × (v w : Tokens) × (r ≡ c ∷ v) × (q ≡ p ++ c ∷ w))

compared : (p r q s : Tokens) → p ++ r ≡ q ++ s → Compared p r q
compared p r [] s e = inl (p, refl)
compared [] r (c ∷ q) s e = inr (c, q ++ s, q, e, refl)
compared (b ∷ p) r (c ∷ q) s e =
    let k : b ≡ c = cc in
    let g : p ++ r ≡ q ++ s = cc in
    elim (compared p r q s g) [
      | inl x ↦ inl (x.0, rw k (ap (λ v. c ∷ v) x.1))
      | inr x ↦ inr (x.0, x.1, x.2, x.3, rw k (ap (λ v. c ∷ v) x.4))
    ]

begins_front : (p q : Tokens) → Begins (p ++ q) → Begins p
begins_front p q b = (b.0, q ++ b.1, subst (Spells b.0) (append_assoc p q b.1) b.2)

-- whatever may begin an expression is no longer than the longest run
covered : (ts p r q s : Tokens) → Longest ts p r → ts ≡ q ++ s → Begins q → (w : Tokens) × (p ≡ q ++ w)
covered ts p r q s h e b =
    elim (compared p r q s (sym h.split ∙ e)) [
      | inl x ↦ x
      | inr x ↦
          let k : q ≡ (p ++ x.0 ∷ []) ++ x.2 = x.4 ∙ sym (append_assoc p (x.0 ∷ []) x.2) in
          absurd (h.no_longer x.0 x.1 x.3 (begins_front (p ++ x.0 ∷ []) x.2 (subst Begins k b)))
    ]

no_more : (p q w : Tokens) → p ≡ q ++ w → length p ≤ length q → p ≡ q
no_more p q [] e h = e ∙ append-nil q
no_more p q (c ∷ w) e h = absurd (let k = ap length e in omega (arith, length-append q (c ∷ w)))

cut : (p r s : Tokens) → p ++ r ≡ p ++ s → r ≡ s
cut [] r s e = e
cut (c ∷ p) r s e = let k : p ++ r ≡ p ++ s = cc in cut p r s k

pub record Same (p q r s : Tokens) : Type 0 where
  pub run : p ≡ q
  pub rest : r ≡ s

one_longest : (ts p q r s : Tokens) → Longest ts p r → Longest ts q s → Same p q r s
one_longest ts p q r s h g =
    let x = covered ts p r q s h g.split g.begins in
    let y = covered ts q s p r g h.split h.begins in
    let e : p ≡ q = no_more p q x.0 x.1 (let k = ap length y.1 in omega (arith, length-append p y.0)) in
    record { run = e; rest = cut p r s (sym h.split ∙ (g.split ∙ ap (λ v. v ++ s) (sym e))) }

-- a run of shallow marks ends before the first that is too deep
past_shallow : (limit : ℕ) (u more x y : Marked) (k : ℕ) (c : Token) → u ++ more ≡ x ++ (k, c) ∷ y → Shallow limit u → limit ≤ k → length u ≤ length x
past_shallow limit [] more x y k c e h l = omega arith
past_shallow limit (m ∷ u) more [] y k c e h l =
    let q : m ≡ (k, c) = cc in let g : m.0 ≡ k = ap (λ v. v.0) q in let j = h.0 in absurd (omega arith)
past_shallow limit (m ∷ u) more (n ∷ x) y k c e h l =
    let g : u ++ more ≡ x ++ (k, c) ∷ y = cc in let j = past_shallow limit u more x y k c g h.1 l in omega arith

length_tokens : (u : Marked) → length (tokens_of u) ≡ length u
length_tokens [] = refl
length_tokens (m ∷ u) = ap suc (length_tokens u)

-- the first mark that is too deep is one
pub record Met (u more x y : Marked) (b c : Token) : Type 0 where
  pub front : u ≡ x
  pub token : b ≡ c
  pub back : more ≡ y

first_deep : (limit : ℕ) (u more x y : Marked) (j k : ℕ) (b c : Token) → u ++ (j, b) ∷ more ≡ x ++ (k, c) ∷ y → Shallow limit u → Shallow limit x → limit ≤ j → limit ≤ k
    → Met u more x y b c
first_deep limit [] more [] y j k b c e h g l i = let l : ℕ × Token = (j, b) in let r : ℕ × Token = (k, c) in let q : l ≡ r = cc in record { front = refl; token = ap (λ v. v.1) q; back = cc }
first_deep limit [] more (n ∷ x) y j k b c e h g l i = let q : n ≡ (j, b) = cc in let f : n.0 ≡ j = ap (λ v. v.0) q in let s = g.0 in absurd (omega arith)
first_deep limit (m ∷ u) more [] y j k b c e h g l i = let q : m ≡ (k, c) = cc in let f : m.0 ≡ k = ap (λ v. v.0) q in let s = h.0 in absurd (omega arith)
first_deep limit (m ∷ u) more (n ∷ x) y j k b c e h g l i =
    let q : m ≡ n = cc in
    let z : u ++ (j, b) ∷ more ≡ x ++ (k, c) ∷ y = cc in
    let r = first_deep limit u more x y j k b c z h.1 g.1 l i in
    record { front = rw q (ap (λ v. n ∷ v) r.front); token = r.token; back = r.back }

module _ (d : ℕ) where
  abbrev expr_reader : Reader
  expr_reader = read expr (depth_limit - d)

  -- the place of a stop is the same whatever follows
  stuck_local : (p : Tokens) (c : Token) (v : Tokens) (o : Outcome Ast) → o ≡ deep (c ∷ v) → Found depth_limit expr_reader (SpellsAt expr d) (p ++ (c ∷ v)) o
      → (w : Tokens) → expr_reader (p ++ (c ∷ w)) ≡ deep (c ∷ w)
  stuck_local p c v (ok a r) e x w = cc
  stuck_local p c v (bad r) e x w = cc
  stuck_local p c v (deep r) e x w =
      let k : c ∷ v ≡ x.token ∷ x.rest = (let q : r ≡ c ∷ v = cc in sym q ∙ x.next) in
      let t : c ≡ x.token = cc in
      let f : p ++ (c ∷ v) ≡ tokens_of x.used ++ (c ∷ v) = x.split ∙ ap (λ y. tokens_of x.used ++ y) (x.next ∙ sym k) in
      let u : p ≡ tokens_of x.used = front p (tokens_of x.used) (c ∷ v) f in
      rw (u, t) (x.local w)
    where
      front : (p q r : Tokens) → p ++ r ≡ q ++ r → p ≡ q
      front [] [] r e = refl
      front [] (b ∷ q) r e = absurd (let k = ap length e in omega (arith, length-append q r))
      front (b ∷ p) [] r e = absurd (let k = ap length e in omega (arith, length-append p r))
      front (b ∷ p) (c ∷ q) r e = let k : b ≡ c = cc in let g : p ++ r ≡ q ++ r = cc in rw k (ap (λ v. c ∷ v) (front p q r g))

  -- a token that is too deep stops the reader
  deep_found : (p more : Tokens) (c : Token) → TooDeep d p c → expr_reader (p ++ (c ∷ more)) ≡ deep (c ∷ more)
  deep_found p more c (t, before, after, depth, s, is, sh, l) = by (at_end depth_limit d t (before ++ (depth, c) ∷ after) s)
    where
      ts : Tokens
      ts = tokens_of (before ++ (depth, c) ∷ after)

      by : Ends depth_limit (expr_reader (tokens_of (before ++ (depth, c) ∷ after))) t (before ++ (depth, c) ∷ after) [] → expr_reader (p ++ (c ∷ more)) ≡ deep (c ∷ more)
      by (inl e) = absurd (not_shallow depth_limit before after depth c l e.1)
      by (inr x) =
          let m = first_deep depth_limit before after x.before x.rest depth x.depth c x.token x.is sh x.shallow l x.many in
          let k : tokens_of (before ++ (depth, c) ∷ after) ≡ p ++ (c ∷ tokens_of after) = tokens_append before ((depth, c) ∷ after) ∙ ap (λ v. v ++ (c ∷ tokens_of after)) is in
          let q : expr_reader (p ++ (c ∷ tokens_of after)) ≡ deep (c ∷ tokens_of after) =
          ap expr_reader (sym k) ∙ (x.stops ∙ ap deep (rw (m.token, m.back) (append-nil (x.token ∷ tokens_of x.rest)))) in
          stuck_local p c (tokens_of after) (expr_reader (p ++ (c ∷ tokens_of after))) q (found d (p ++ (c ∷ tokens_of after))) more

  -- no token of the longest run is too deep, where all of it is within the depth
  not_deep : (ts p r q more : Tokens) (c : Token) → Longest ts p r → Within d p → ts ≡ q ++ (c ∷ more) → TooDeep d q c → ⊥
  not_deep ts p r q more c h w e t =
      let cover = covered ts p r (q ++ c ∷ []) more h (e ∙ sym (append_assoc q (c ∷ []) more)) (begins_deep t) in
      by (w.0) (w.1) (w.2) (cover.0) (at_end depth_limit d w.0 (w.1 ++ w.2) w.3)
      (tokens_append w.1 w.2 ∙ (ap (λ v. v ++ tokens_of w.2) (w.4 ∙ cover.1) ∙ (append_assoc (q ++ c ∷ []) cover.0 (tokens_of w.2) ∙ append_assoc q (c ∷ []) (cover.0 ++ tokens_of w.2))))
      w.5
    where
      begins_deep : TooDeep d q c → Begins (q ++ c ∷ [])
      begins_deep (t, before, after, depth, s, is, sh, l) =
          let k : before ++ (depth, c) ∷ after ≡ (before ++ (depth, c) ∷ []) ++ after = sym (append_assoc before ((depth, c) ∷ []) after) in
          let b = begins_so d t (before ++ (depth, c) ∷ []) after (subst (SpellsAt expr d t) k s) in
          subst Begins (tokens_append before ((depth, c) ∷ []) ∙ ap (λ v. v ++ c ∷ []) is) b

      by : (a : Ast) (before after : Marked) (x : Tokens) → Ends depth_limit (expr_reader (tokens_of (before ++ after))) a (before ++ after) []
          → tokens_of (before ++ after) ≡ q ++ (c ∷ (x ++ tokens_of after)) → Shallow depth_limit before → ⊥
      by a before after x (inl y) k sh = let g : deep (c ∷ (x ++ tokens_of after)) ≡ ok a [] = sym (deep_found q (x ++ tokens_of after) c t) ∙ (ap expr_reader (sym k) ∙ y.0) in cc
      by a before after x (inr y) k sh =
          let g : deep (c ∷ (x ++ tokens_of after)) ≡ deep (y.token ∷ (tokens_of y.rest ++ [])) = sym (deep_found q (x ++ tokens_of after) c t) ∙ (ap expr_reader (sym k) ∙ y.stops) in
          let f0 : x ++ tokens_of after ≡ tokens_of y.rest ++ [] = cc in
          let f : x ++ tokens_of after ≡ tokens_of y.rest = f0 ∙ append-nil (tokens_of y.rest) in
          let i = past_shallow depth_limit before after y.before y.rest y.depth y.token y.is sh y.many in
          let l1 = ap length f in
          let l2 = ap length y.is in
          omega (arith, length-append x (tokens_of after), length-append before after, length-append y.before ((y.depth, y.token) ∷ y.rest), length_tokens after, length_tokens y.rest)

  within_of : (t : Ast) (p : Tokens) → SpellsWithin d t p → Within d p
  within_of t p s = (t, s.0, [], subst (SpellsAt expr d t) (sym (append-nil s.0)) s.1, s.2, s.3)

  spells_of : (t : Ast) (p : Tokens) → SpellsWithin d t p → Spells t p
  spells_of t p s = subst (Spells t) s.2 (spells d t s.0 s.1)

  pub only : (ts : Tokens) (o q : Outcome Ast) → Answers d ts o → Answers d ts q → o ≡ q
  only ts (ok a r) (ok b s) x y =
      let m = one_longest ts x.0 y.0 r s x.1 y.1 in
      let e : a ≡ b = one_tree a b y.0 (subst (Spells a) m.run (spells_of a x.0 x.2)) (spells_of b y.0 y.2) in
      rw (e, m.rest) refl
  only ts (ok a r) (bad s) x y = let m = one_longest ts x.0 y.0 r s x.1 y.1 in absurd (y.2 a (subst (Spells a) m.run (spells_of a x.0 x.2)))
  only ts (bad r) (ok b s) x y = let m = one_longest ts x.0 y.0 r s x.1 y.1 in absurd (x.2 b (subst (Spells b) (sym m.run) (spells_of b y.0 y.2)))
  only ts (bad r) (bad s) x y = let m = one_longest ts x.0 y.0 r s x.1 y.1 in ap bad m.rest
  only ts (ok a r) (deep s) x y = absurd (not_deep ts x.0 r y.0 y.1 y.2 x.1 (within_of a x.0 x.2) y.3 y.4)
  only ts (bad r) (deep s) x y = absurd (not_deep ts x.0 r y.0 y.1 y.2 x.1 x.3 y.3 y.4)
  only ts (deep s) (ok a r) y x = absurd (not_deep ts x.0 r y.0 y.1 y.2 x.1 (within_of a x.0 x.2) y.3 y.4)
  only ts (deep s) (bad r) y x = absurd (not_deep ts x.0 r y.0 y.1 y.2 x.1 x.3 y.3 y.4)
  only ts (deep r) (deep s) x y =
      let e : expr_reader ts ≡ deep (x.2 ∷ x.1) = ap expr_reader x.3 ∙ deep_found x.0 x.1 x.2 x.4 in
      let f : expr_reader ts ≡ deep (y.2 ∷ y.1) = ap expr_reader y.3 ∙ deep_found y.0 y.1 y.2 y.4 in
      let k : x.2 ∷ x.1 ≡ y.2 ∷ y.1 = cc in
      ap deep (x.5 ∙ (k ∙ sym y.5))

-- ---- by numbers of tokens and places

-- the answer that tells the outcome
abbrev pub told : ℕ → Tokens → Outcome Ast → Result (Ast × ℕ) ParseFault
told len ts (ok a r) = Ok (a, length ts - length r)
told len ts (bad r) = Err (Unexpected (offset len r))
told len ts (deep r) = Err (Deep (offset len r))

length_drop : (n : ℕ) (ts : Tokens) → n ≤ length ts → n + length (drop n ts) ≡ length ts
length_drop zero ts h = omega arith
length_drop (suc n) [] h = absurd (omega arith)
length_drop (suc n) (c ∷ ts) h = let k = length_drop n ts (omega arith) in omega arith

number_of : (ts p r : Tokens) (from : ℕ) → from ≤ length ts → drop from ts ≡ p ++ r → length ts - length r ≡ from + length p
number_of ts p r from h e = let k = length_drop from ts h in let q = ap length e in omega (arith, length-append p r)

pub is_answer : (ts : Tokens) (from len d : ℕ) (o : Outcome Ast) → from ≤ length ts → Answers d (drop from ts) o → IsAnswer ts from len d (told len ts o)
is_answer ts from len d (ok a r) h x = (x.0, r, record { longest = x.1; spelled = x.2; number = number_of ts x.0 r from h x.1.split })
is_answer ts from len d (bad r) h x = (x.0, r, record { longest = x.1; no_tree = x.2; within = x.3; offset = refl })
is_answer ts from len d (deep r) h x = (x.0, x.1, x.2, record { split = x.3; deep = x.4; offset = ap (offset len) x.5 })

pub record Outcome_of (ts : Tokens) (from len d : ℕ) (answer : Result (Ast × ℕ) ParseFault) : Type 0 where
  pub outcome : Outcome Ast
  pub answers : Answers d (drop from ts) outcome
  pub is : answer ≡ told len ts outcome

pub outcome_of : (ts : Tokens) (from len d : ℕ) (answer : Result (Ast × ℕ) ParseFault) → from ≤ length ts → IsAnswer ts from len d answer → Outcome_of ts from len d answer
outcome_of ts from len d (Ok e) h x = record {
  outcome = ok e.0 x.1;
  answers = (x.0, x.2.longest, x.2.spelled);
  is = (let k : e.1 ≡ length ts - length x.1 = x.2.number ∙ sym (number_of ts x.0 x.1 from h x.2.longest.split) in ap (λ n. Ok (e.0, n)) k);
}
outcome_of ts from len d (Err (Unexpected at)) h x = record {
  outcome = bad x.1;
  answers = (x.0, x.2.longest, x.2.no_tree, x.2.within);
  is = ap (λ n. Err (Unexpected n)) x.2.offset;
}
outcome_of ts from len d (Err (Deep at)) h x = record {
  outcome = deep (x.2 ∷ x.1);
  answers = (x.0, x.1, x.2, x.3.split, x.3.deep, refl);
  is = ap (λ n. Err (Deep n)) x.3.offset;
}
outcome_of ts from len d (Err NoMemory) h x = absurd x

pub told_exact : (ts : Tokens) (from len d : ℕ) → from ≤ length ts → (answer : Result (Ast × ℕ) ParseFault)
    → (told len ts (read expr (depth_limit - d) (drop from ts)) ≡ answer) ↔ IsAnswer ts from len d answer
told_exact ts from len d h answer = (
  (λ e. subst (IsAnswer ts from len d) e (is_answer ts from len d (read expr (depth_limit - d) (drop from ts)) h (reader_answers d (drop from ts)))),
  (λ x.
      let y = outcome_of ts from len d answer h x in
      ap (told len ts) (only d (drop from ts) (read expr (depth_limit - d) (drop from ts)) y.outcome (reader_answers d (drop from ts)) y.answers) ∙ sym y.is),
)

-- what the program's reader says
pub said : (ts : Tokens) (len : ℕ) (a : Ast) (n : ℕ) (o : Outcome Ast) → n ≤ length ts → o ≡ ok a (drop n ts) → told len ts o ≡ Ok (a, n)
said ts len a n o h e =
    let k = length_drop n ts h in
    let q : length ts - length (drop n ts) ≡ n = omega arith in
    ap (told len ts) e ∙ ap (λ m. Ok (a, m)) q

pub said_stop : (ts : Tokens) (len : ℕ) (s : Stop) (o : Outcome Ast) → Stopped ts s o → (fault len ts s ≡ parse.NoMemory) ⊎ (told len ts o ≡ Err (fault len ts s))
said_stop ts len (stop.Unexpected k) o h = inr (ap (told len ts) h)
said_stop ts len (stop.Deep k) o h = inr (ap (told len ts) h)
said_stop ts len stop.NoMemory o h = inl refl

pub exact_ok : (ts : Tokens) (from len d : ℕ) (a : Ast) (n : ℕ) → from ≤ length ts → n ≤ length ts → (readers (depth_limit - d)).expr (drop from ts) ≡ ok a (drop n ts)
    → IsExact ts from len d (Ok (a, n))
exact_ok ts from len d a n h k e =
    inr (λ answer. subst (λ x. (x ≡ answer) ↔ IsAnswer ts from len d answer) (said ts len a n (read expr (depth_limit - d) (drop from ts)) k e) (told_exact ts from len d h answer))

pub exact_stop : (ts : Tokens) (from len d : ℕ) (s : Stop) → from ≤ length ts → Stopped ts s ((readers (depth_limit - d)).expr (drop from ts))
    → IsExact ts from len d (Err (fault len ts s))
exact_stop ts from len d s h e =
    elim (said_stop ts len s (read expr (depth_limit - d) (drop from ts)) e) [
      | inl x ↦ inl (ap (λ f. Err f) x)
      | inr x ↦ inr (λ answer. subst (λ y. (y ≡ answer) ↔ IsAnswer ts from len d answer) x (told_exact ts from len d h answer))
    ]
