-- What is read of the words of a behaviour is what they spell.
use Rattle.std.proofs.Common.{◌≡◌, ◌⊎◌, inl, inr, ℕ, zero, suc, ℤ, pos, ◌+◌, ◌*◌, ◌<◌, ◌≤◌, ◌^◌, Bool, true, false, cond, ◌&&◌, nat_lt, List, [], ◌∷◌, ◌++◌, length, length-append, append_assoc, append-nil, Option, Some, None, refl, sym, ◌∙◌, ap, subst, arith, codes, bytes_eq}
use Rattle.std.proofs.lemmas.Bool.Decides.{Decides-ltb, nat_tests}
use Rattle.std.specs.List.{list_all}
use Rattle.std.specs.Str.Parse.{digits_value}
use Rattle.txs_values.specs.Spelling.{is_digit, is_letter, is_name_byte}
use Rattle.txs_values.specs.Value.{num, fits}
use Rattle.txs_terms.specs.Expr.{Expr, val, slot}
use Rattle.txs_terms.specs.Term.{Position, give, take as taking, Term, stop, prefix, choice}
use Rattle.txs_terms.specs.Sets.{IsPlain}
use Rattle.txs_words.specs.Form.{has_byte, is_worded, is_name, IsName, slot_from, slot_of, IsChannel, IsNumber, offer, Binding, tight, loose, Spells, stops, takes, gives_number, gives_variable, groups, alone, chooses}
use Rattle.txs_words.specs.inner.Parsing.{are_digits, number_read, name_read, as_number, as_slot, as_taken, as_given, expr_read, position_read, binder, channel_read, Front, Reader, prefixed, step_read, prefix_read, closed, grouped, beside, choice_read, chosen, front_read, entire, behaviour_read}
use Rattle.txs_words.proofs.Digits.{digits-here, digits-numeral}
use Rattle.txs_values.proofs.Tests.{by-test, and-both, both-and, eq-bytes, bytes-eq, ne-bytes, yes, no}

-- ---- what is read is spelled

number-spelled : (w : List ℕ) (n : ℤ) → number_read w ≡ Some n → IsNumber w n
number-spelled w n h = elim (by-test (are_digits w && nat_lt (digits_value 10 w) (2 ^ 127)) (Some (pos (digits_value 10 w))) None (Some n) h) [
  | inl d ↦ let p = and-both (are_digits w) (nat_lt (digits_value 10 w) (2 ^ 127)) d.0 in
      let e : n ≡ pos (digits_value 10 w) = cc in
      ((and-both (has_byte w) (list_all is_digit w) p.0).1, digits-numeral w p.0, e, (Decides-ltb (digits_value 10 w) (2 ^ 127)).0 p.1)
  | inr d ↦ absurd (cc)
]

-- the last two words of a prefix, whose position this is
abbrev pub SpellsPosition : List (List ℕ) → List ℕ → List ℕ → Position → Type 0
SpellsPosition bound s w (taking x) = (s ≡ codes "?") × (x ≡ w) × IsName w
SpellsPosition bound s w (give (val (num n))) = (s ≡ codes "!") × IsNumber w n
SpellsPosition bound s w (give (slot k)) = (s ≡ codes "!") × IsName w × (slot_of bound w ≡ Some k)
SpellsPosition bound s w (give _) = ⊥

as_number-is : (o : Option ℤ) (p : Position) → as_given (as_number o) ≡ Some p → (n : ℤ) × (o ≡ Some n) × (p ≡ give (val (num n)))
as_number-is None p h = absurd (cc)
as_number-is (Some n) p h = (n, refl, cc)

as_slot-is : (o : Option ℕ) (p : Position) → as_given (as_slot o) ≡ Some p → (k : ℕ) × (o ≡ Some k) × (p ≡ give (slot k))
as_slot-is None p h = absurd (cc)
as_slot-is (Some k) p h = (k, refl, cc)

given-cond : (b : Bool) (x y : Option Expr) → as_given (cond b x y) ≡ cond b (as_given x) (as_given y)
given-cond true x y = refl
given-cond false x y = refl

variable-spelled : (bound : List (List ℕ)) (w : List ℕ) (p : Position) → as_given (cond (is_name w) (as_slot (slot_of bound w)) None) ≡ Some p → SpellsPosition bound (codes "!") w p
variable-spelled bound w p h = elim (by-test (is_name w) (as_given (as_slot (slot_of bound w))) None (Some p) (sym (given-cond (is_name w) (as_slot (slot_of bound w)) None) ∙ h)) [
  | inl d ↦ let g = as_slot-is (slot_of bound w) p d.1 in
      subst (λ (q : Position). SpellsPosition bound (codes "!") w q) (sym g.2) (refl, d.0, g.1)
  | inr d ↦ absurd (cc)
]

given-spelled : (bound : List (List ℕ)) (w : List ℕ) (p : Position) → as_given (expr_read bound w) ≡ Some p → SpellsPosition bound (codes "!") w p
given-spelled bound w p h = elim (by-test (are_digits w) (as_given (as_number (number_read w))) (as_given (cond (is_name w) (as_slot (slot_of bound w)) None)) (Some p) (sym (given-cond (are_digits w) (as_number (number_read w)) (cond (is_name w) (as_slot (slot_of bound w)) None)) ∙ h)) [
  | inl d ↦ let g = as_number-is (number_read w) p d.1 in
      subst (λ (q : Position). SpellsPosition bound (codes "!") w q) (sym g.2) (refl, number-spelled w g.0 g.1)
  | inr d ↦ variable-spelled bound w p d.1
]

taken-spelled : (bound : List (List ℕ)) (w : List ℕ) (b : Bool) (p : Position) → is_name w ≡ b → as_taken (cond b (Some w) None) ≡ Some p → SpellsPosition bound (codes "?") w p
taken-spelled bound w true p e h = let q : taking w ≡ p = cc in subst (λ (q : Position). SpellsPosition bound (codes "?") w q) q (refl, refl, e)
taken-spelled bound w false p e h = absurd (cc)

position-spelled : (bound : List (List ℕ)) (s w : List ℕ) (p : Position) → position_read bound s w ≡ Some p → SpellsPosition bound s w p
position-spelled bound s w p h = elim (by-test (bytes_eq s (codes "?")) (as_taken (name_read w)) (cond (bytes_eq s (codes "!")) (as_given (expr_read bound w)) None) (Some p) h) [
  | inl d ↦ subst (λ (z : List ℕ). SpellsPosition bound z w p) (sym (eq-bytes s (codes "?") d.0)) (taken-spelled bound w (is_name w) p refl d.1)
  | inr d ↦ elim (by-test (bytes_eq s (codes "!")) (as_given (expr_read bound w)) None (Some p) d.1) [
    | inl e ↦ subst (λ (z : List ℕ). SpellsPosition bound z w p) (sym (eq-bytes s (codes "!") e.0)) (given-spelled bound w p e.1)
    | inr e ↦ absurd (cc)
  ]
]

channel-spelled : (i o name : List ℕ) (c : ℕ) → channel_read i o name ≡ Some c → IsChannel i o c name
channel-spelled i o name c h = elim (by-test (bytes_eq name i) (Some 0) (cond (bytes_eq name o) (Some 1) None) (Some c) h) [
  | inl d ↦ let z : c ≡ 0 = cc in inl (z, eq-bytes name i d.0)
  | inr d ↦ elim (by-test (bytes_eq name o) (Some 1) None (Some c) d.1) [
    | inl e ↦ let z : c ≡ 1 = cc in inr (z, eq-bytes name o e.0)
    | inr e ↦ absurd (cc)
  ]
]

prefix-spelled : (i o : List ℕ) (bound more : List (List ℕ)) (c : ℕ) (name s w : List ℕ) (p : Position) (t : Term) → IsChannel i o c name → SpellsPosition bound s w p → Spells i o tight (bound ++ binder p ∷ []) t more
    → Spells i o tight bound (prefix (offer c p) [] t) (name ∷ s ∷ w ∷ codes ">->" ∷ more)
prefix-spelled i o bound more c name s w (taking x) t ch h r =
    subst (λ (z : List ℕ). Spells i o tight bound (prefix (offer c (taking x)) [] t) (name ∷ z ∷ w ∷ codes ">->" ∷ more)) (sym h.0)
    (subst (λ (z : List ℕ). Spells i o tight bound (prefix (offer c (taking x)) [] t) (name ∷ codes "?" ∷ z ∷ codes ">->" ∷ more)) h.1 (takes c name x ch (subst IsName (sym h.1) h.2) r))
prefix-spelled i o bound more c name s w (give (val (num n))) t ch h r =
    subst (λ (z : List ℕ). Spells i o tight bound (prefix (offer c (give (val (num n)))) [] t) (name ∷ z ∷ w ∷ codes ">->" ∷ more)) (sym h.0) (gives_number c name w n ch h.1 r)
prefix-spelled i o bound more c name s w (give (slot k)) t ch h r =
    subst (λ (z : List ℕ). Spells i o tight bound (prefix (offer c (give (slot k))) [] t) (name ∷ z ∷ w ∷ codes ">->" ∷ more)) (sym h.0) (gives_variable c name w k ch h.1 h.2 r)
prefix-spelled i o bound more c name s w (give _) t ch h r = absurd h

prefixed-is : (c : ℕ) (p : Position) (r : Option Front) (t : Term) (rest : List (List ℕ)) → prefixed c p r ≡ Some (t, rest) → (u : Term) × (r ≡ Some (u, rest)) × (t ≡ prefix (offer c p) [] u)
prefixed-is c p None t rest h = absurd (cc)
prefixed-is c p (Some f) t rest h =
    let e : (prefix (offer c p) [] f.0, f.1) ≡ (t, rest) = cc in
    (f.0, ap (λ (z : List (List ℕ)). Some (f.0, z)) (ap (λ (z : Front). z.1) e), sym (ap (λ (z : Front). z.0) e))

step-is : (oc : Option ℕ) (op : Option Position) (k : Position → Option Front) (t : Term) (rest : List (List ℕ)) → step_read oc op k ≡ Some (t, rest)
    → (c : ℕ) × (p : Position) × (u : Term) × (oc ≡ Some c) × (op ≡ Some p) × (k p ≡ Some (u, rest)) × (t ≡ prefix (offer c p) [] u)
step-is None op k t rest h = absurd (cc)
step-is (Some c) None k t rest h = absurd (cc)
step-is (Some c) (Some p) k t rest h = let g = prefixed-is c p (k p) t rest h in (c, p, g.0, refl, refl, g.1, g.2)

closed-is : (u : Term) (ws : List (List ℕ)) (t : Term) (rest : List (List ℕ)) → closed u ws ≡ Some (t, rest) → (t ≡ u) × (ws ≡ codes ")" ∷ rest)
closed-is u [] t rest h = absurd (cc)
closed-is u (w ∷ ws) t rest h = elim (by-test (bytes_eq w (codes ")")) (Some (u, ws)) None (Some (t, rest)) h) [
  | inl d ↦
      let e : (u, ws) ≡ (t, rest) = cc in
      (sym (ap (λ (z : Front). z.0) e), ap (λ (z : List ℕ). z ∷ ws) (eq-bytes w (codes ")") d.0) ∙ ap (λ (z : Front). codes ")" ∷ z.1) e)
  | inr d ↦ absurd (cc)
]

grouped-is : (r : Option Front) (t : Term) (rest : List (List ℕ)) → grouped r ≡ Some (t, rest) → r ≡ Some (t, codes ")" ∷ rest)
grouped-is None t rest h = absurd (cc)
grouped-is (Some f) t rest h = let g = closed-is f.0 f.1 t rest h in
    ap (λ (z : Term). Some (z, f.1)) (sym g.0) ∙ ap (λ (z : List (List ℕ)). Some (t, z)) g.1

beside-is : (a : Term) (r : Option Front) (t : Term) (rest : List (List ℕ)) → beside a r ≡ Some (t, rest) → (b : Term) × (r ≡ Some (b, rest)) × (t ≡ choice a b)
beside-is a None t rest h = absurd (cc)
beside-is a (Some f) t rest h =
    let e : (choice a f.0, f.1) ≡ (t, rest) = cc in
    (f.0, ap (λ (z : List (List ℕ)). Some (f.0, z)) (ap (λ (z : Front). z.1) e), sym (ap (λ (z : Front). z.0) e))

-- the left side alone, or a choice
choice-is : (loosely : List (List ℕ) → Option Front) (a : Term) (ws : List (List ℕ)) (t : Term) (rest : List (List ℕ)) → choice_read loosely a ws ≡ Some (t, rest)
    → ((t ≡ a) × (ws ≡ rest)) ⊎ ((b : Term) × (more : List (List ℕ)) × (ws ≡ codes "##" ∷ more) × (loosely more ≡ Some (b, rest)) × (t ≡ choice a b))
choice-is loosely a [] t rest h =
    let e : (a, []) ≡ (t, rest) = cc in
    inl (sym (ap (λ (z : Front). z.0) e), ap (λ (z : Front). z.1) e)
choice-is loosely a (w ∷ ws) t rest h = elim (by-test (bytes_eq w (codes "##")) (beside a (loosely ws)) (Some (a, w ∷ ws)) (Some (t, rest)) h) [
  | inl d ↦ let g = beside-is a (loosely ws) t rest d.1 in inr (g.0, ws, ap (λ (z : List ℕ). z ∷ ws) (eq-bytes w (codes "##") d.0), g.1, g.2)
  | inr d ↦ let e : (a, w ∷ ws) ≡ (t, rest) = cc in inl (sym (ap (λ (z : Front). z.0) e), ap (λ (z : Front). z.1) e)
]

chosen-is : (loosely : List (List ℕ) → Option Front) (r : Option Front) (t : Term) (rest : List (List ℕ)) → chosen loosely r ≡ Some (t, rest)
    → (a : Term) × (ws : List (List ℕ)) × (r ≡ Some (a, ws)) × (choice_read loosely a ws ≡ Some (t, rest))
chosen-is loosely None t rest h = absurd (cc)
chosen-is loosely (Some f) t rest h = (f.0, f.1, refl, h)

-- the front of the words spells the term, and these are after it
abbrev pub Fronts : List ℕ → List ℕ → Binding → List (List ℕ) → List (List ℕ) → Term → List (List ℕ) → Type 0
Fronts i o b bound ws t rest = (taken : List (List ℕ)) × (ws ≡ taken ++ rest) × Spells i o b bound t taken

-- what each call of a reader spells
abbrev pub Sound : List ℕ → List ℕ → Binding → Reader → Type 0
Sound i o b reader = (bound ws : List (List ℕ)) (t : Term) (rest : List (List ℕ)) → reader bound ws ≡ Some (t, rest) → Fronts i o b bound ws t rest

stop-fronts : (i o : List ℕ) (bound : List (List ℕ)) (w : List ℕ) (ws : List (List ℕ)) (t : Term) (rest : List (List ℕ)) → w ≡ codes "STOP" → ◌≡◌ {A = Option Front} (Some (stop, ws)) (Some (t, rest)) → Fronts i o tight bound (w ∷ ws) t rest
stop-fronts i o bound w ws t rest e h =
    let q : (stop, ws) ≡ (t, rest) = cc in
    subst (λ (z : Term). Fronts i o tight bound (w ∷ ws) z rest) (ap (λ (z : Front). z.0) q)
    (codes "STOP" ∷ [], ap (λ (z : List ℕ). z ∷ ws) e ∙ ap (λ (z : Front). codes "STOP" ∷ z.1) q, stops)

group-fronts : (i o : List ℕ) (bound : List (List ℕ)) (w : List ℕ) (ws : List (List ℕ)) (t : Term) (rest : List (List ℕ)) → w ≡ codes "(" → Fronts i o loose bound ws t (codes ")" ∷ rest) → Fronts i o tight bound (w ∷ ws) t rest
group-fronts i o bound w ws t rest e f = (
  codes "(" ∷ f.0 ++ codes ")" ∷ [],
  ap (λ (z : List ℕ). z ∷ ws) e ∙ ap (λ (z : List (List ℕ)). codes "(" ∷ z) (f.1 ∙ sym (append_assoc f.0 (codes ")" ∷ []) rest)),
  groups f.2,
)

prefix-fronts : (i o : List ℕ) (tightly : Reader) → Sound i o tight tightly → (bound : List (List ℕ)) (n : List ℕ) (ws : List (List ℕ)) (t : Term) (rest : List (List ℕ)) → prefix_read tightly i o bound n ws ≡ Some (t, rest) → Fronts i o tight bound (n ∷ ws) t rest
prefix-fronts i o tightly sound bound n [] t rest h = absurd (cc)
prefix-fronts i o tightly sound bound n (s ∷ []) t rest h = absurd (cc)
prefix-fronts i o tightly sound bound n (s ∷ w ∷ []) t rest h = absurd (cc)
prefix-fronts i o tightly sound bound n (s ∷ w ∷ a ∷ more) t rest h =
    elim (by-test (bytes_eq a (codes ">->")) (step_read (channel_read i o n) (position_read bound s w) (λ p. tightly (bound ++ binder p ∷ []) more)) None (Some (t, rest)) h) [
      | inl d ↦ let g = step-is (channel_read i o n) (position_read bound s w) (λ p. tightly (bound ++ binder p ∷ []) more) t rest d.1 in
          let f = sound (bound ++ binder g.1 ∷ []) more g.2 rest g.5 in
          subst (λ (z : Term). Fronts i o tight bound (n ∷ s ∷ w ∷ a ∷ more) z rest) (sym g.6) (
            n ∷ s ∷ w ∷ codes ">->" ∷ f.0,
            ap (λ (z : List ℕ). n ∷ s ∷ w ∷ z ∷ more) (eq-bytes a (codes ">->") d.0) ∙ ap (λ (z : List (List ℕ)). n ∷ s ∷ w ∷ codes ">->" ∷ z) f.1,
            prefix-spelled i o bound f.0 g.0 n s w g.1 g.2 (channel-spelled i o n g.0 g.3) (position-spelled bound s w g.1 g.4) f.2,
          )
      | inr d ↦ absurd (cc)
    ]

choice-fronts : (i o : List ℕ) (bound ws : List (List ℕ)) (t : Term) (rest : List (List ℕ)) (a b : Term) (behind more : List (List ℕ))
    → Fronts i o tight bound ws a behind → behind ≡ codes "##" ∷ more → Fronts i o loose bound more b rest → t ≡ choice a b → Fronts i o loose bound ws t rest
choice-fronts i o bound ws t rest a b behind more f e g q =
    subst (λ (z : Term). Fronts i o loose bound ws z rest) (sym q) (
      f.0 ++ codes "##" ∷ g.0,
      f.1 ∙ (ap (λ (z : List (List ℕ)). f.0 ++ z) (e ∙ ap (λ (z : List (List ℕ)). codes "##" ∷ z) g.1) ∙ sym (append_assoc f.0 (codes "##" ∷ g.0) rest)),
      chooses f.2 g.2,
    )

alone-fronts : (i o : List ℕ) (bound ws : List (List ℕ)) (t a : Term) (behind rest : List (List ℕ)) → Fronts i o tight bound ws a behind → t ≡ a → behind ≡ rest → Fronts i o loose bound ws t rest
alone-fronts i o bound ws t a behind rest f e q =
    subst (λ (z : Term). Fronts i o loose bound ws z rest) (sym e) (f.0, f.1 ∙ ap (λ (z : List (List ℕ)). f.0 ++ z) q, alone f.2)

front-spells : (k : ℕ) (b : Binding) (i o : List ℕ) → Sound i o b (front_read k b i o)
front-spells zero b i o bound ws t rest h = absurd (cc)
front-spells (suc k) tight i o bound [] t rest h = absurd (cc)
front-spells (suc k) tight i o bound (w ∷ ws) t rest h =
    elim (by-test (bytes_eq w (codes "STOP")) (Some (stop, ws)) (cond (bytes_eq w (codes "(")) (grouped (front_read k loose i o bound ws)) (prefix_read (front_read k tight i o) i o bound w ws)) (Some (t, rest)) h) [
      | inl d ↦ stop-fronts i o bound w ws t rest (eq-bytes w (codes "STOP") d.0) d.1
      | inr d ↦ elim (by-test (bytes_eq w (codes "(")) (grouped (front_read k loose i o bound ws)) (prefix_read (front_read k tight i o) i o bound w ws) (Some (t, rest)) d.1) [
        | inl e ↦ group-fronts i o bound w ws t rest (eq-bytes w (codes "(") e.0) (front-spells k loose i o bound ws t (codes ")" ∷ rest) (grouped-is (front_read k loose i o bound ws) t rest e.1))
        | inr e ↦ prefix-fronts i o (front_read k tight i o) (front-spells k tight i o) bound w ws t rest e.1
      ]
    ]
front-spells (suc k) loose i o bound ws t rest h =
    let g = chosen-is (front_read k loose i o bound) (front_read k tight i o bound ws) t rest h in
    let f = front-spells k tight i o bound ws g.0 g.1 g.2 in
    elim (choice-is (front_read k loose i o bound) g.0 g.1 t rest g.3) [
      | inl d ↦ alone-fronts i o bound ws t g.0 g.1 rest f d.0 d.1
      | inr d ↦ choice-fronts i o bound ws t rest g.0 d.0 g.1 d.1 f d.2 (front-spells k loose i o bound d.1 d.0 rest d.3) d.4
    ]

entire-is : (r : Option Front) (t : Term) → entire r ≡ Some t → r ≡ Some (t, [])
entire-is None t h = absurd (cc)
entire-is (Some (u, [])) t h = let e : u ≡ t = cc in ap (λ (z : Term). Some (z, [])) e
entire-is (Some (u, w ∷ ws)) t h = absurd (cc)

pub read-spells : (i o : List ℕ) (ws : List (List ℕ)) (t : Term) → behaviour_read i o ws ≡ Some t → Spells i o loose [] t ws
read-spells i o ws t h =
    let f = front-spells (suc (2 * length ws)) loose i o [] ws t [] (entire-is (front_read (suc (2 * length ws)) loose i o [] ws) t h) in
    subst (λ (z : List (List ℕ)). Spells i o loose [] t z) (sym (f.1 ∙ append-nil f.0)) f.2

-- ---- what is spelled is read

letter-no-digit : (b : ℕ) → is_letter b ≡ true → is_digit b ≡ false
letter-no-digit b h = grind (arith, nat_tests)

worded-no-digits : (w : List ℕ) → is_worded w ≡ true → are_digits w ≡ false
worded-no-digits [] h = absurd (cc)
worded-no-digits (b ∷ bs) h = let p = and-both (is_letter b) (list_all is_name_byte bs) h in ap (λ (t : Bool). t && list_all is_digit bs) (letter-no-digit b p.0)

name-no-digits : (w : List ℕ) → IsName w → are_digits w ≡ false
name-no-digits w h = worded-no-digits w (and-both (is_worded w) _ h).0

number-read : (w : List ℕ) (n : ℤ) → IsNumber w n → (are_digits w ≡ true) × (number_read w ≡ Some n)
number-read w n h =
    let d = digits-here w h.0 h.1.0 in
    (d, yes (are_digits w && nat_lt (digits_value 10 w) (2 ^ 127)) (Some (pos (digits_value 10 w))) None (both-and (are_digits w) _ d ((Decides-ltb (digits_value 10 w) (2 ^ 127)).1 h.3)) ∙ ap Some (sym h.2))

number-position : (bound : List (List ℕ)) (w : List ℕ) (n : ℤ) → IsNumber w n → position_read bound (codes "!") w ≡ Some (give (val (num n)))
number-position bound w n h =
    let g = number-read w n h in
    ap as_given (yes (are_digits w) (as_number (number_read w)) (cond (is_name w) (as_slot (slot_of bound w)) None) g.0 ∙ ap as_number g.1)

slot-position : (bound : List (List ℕ)) (w : List ℕ) (k : ℕ) → IsName w → slot_of bound w ≡ Some k → position_read bound (codes "!") w ≡ Some (give (slot k))
slot-position bound w k h e =
    ap as_given (no (are_digits w) (as_number (number_read w)) (cond (is_name w) (as_slot (slot_of bound w)) None) (name-no-digits w h)
    ∙ (yes (is_name w) (as_slot (slot_of bound w)) None h ∙ ap as_slot e))

take-position : (bound : List (List ℕ)) (w : List ℕ) → IsName w → position_read bound (codes "?") w ≡ Some (taking w)
take-position bound w h = ap as_taken (yes (is_name w) (Some w) None h)

channel-read : (i o name : List ℕ) (c : ℕ) → (i ≡ o → ⊥) → IsChannel i o c name → channel_read i o name ≡ Some c
channel-read i o name c ne (inl h) = yes (bytes_eq name i) (Some 0) (cond (bytes_eq name o) (Some 1) None) (bytes-eq name i h.1) ∙ ap Some (sym h.0)
channel-read i o name c ne (inr h) = no (bytes_eq name i) (Some 0) (cond (bytes_eq name o) (Some 1) None) (ne-bytes name i (λ e. ne (sym e ∙ h.1)) (bytes_eq name i) refl)
    ∙ (yes (bytes_eq name o) (Some 1) None (bytes-eq name o h.1) ∙ ap Some (sym h.0))

step-reads : (oc : Option ℕ) (op : Option Position) (k : Position → Option Front) (c : ℕ) (p : Position) (t : Term) (rest : List (List ℕ)) → oc ≡ Some c → op ≡ Some p → k p ≡ Some (t, rest)
    → step_read oc op k ≡ Some (prefix (offer c p) [] t, rest)
step-reads oc op k c p t rest e f g = ap (λ (q : Option ℕ). step_read q op k) e ∙ (ap (λ (q : Option Position). step_read (Some c) q k) f ∙ ap (prefixed c p) g)

no-name : (w v : List ℕ) → IsName w → is_name v ≡ false → w ≡ v → ⊥
no-name w v n e q = let z : true ≡ false = sym n ∙ (ap is_name q ∙ e) in absurd (cc)

-- a channel's word is neither STOP nor a parenthesis
channel-name : (i o name : List ℕ) (c : ℕ) → IsName i → IsName o → IsChannel i o c name → IsName name
channel-name i o name c ni no (inl h) = subst IsName (sym h.1) ni
channel-name i o name c ni no (inr h) = subst IsName (sym h.1) no

name-read : (k : ℕ) (i o : List ℕ) (bound : List (List ℕ)) (name : List ℕ) (ws : List (List ℕ)) → IsName name → front_read (suc k) tight i o bound (name ∷ ws) ≡ prefix_read (front_read k tight i o) i o bound name ws
name-read k i o bound name ws n =
    no (bytes_eq name (codes "STOP")) (Some (stop, ws)) (cond (bytes_eq name (codes "(")) (grouped (front_read k loose i o bound ws)) (prefix_read (front_read k tight i o) i o bound name ws)) (ne-bytes name (codes "STOP") (no-name name (codes "STOP") n refl) (bytes_eq name (codes "STOP")) refl)
    ∙ no (bytes_eq name (codes "(")) (grouped (front_read k loose i o bound ws)) (prefix_read (front_read k tight i o) i o bound name ws) (ne-bytes name (codes "(") (no-name name (codes "(") n refl) (bytes_eq name (codes "(")) refl)

prefix-reads : (k : ℕ) (i o : List ℕ) → IsName i → IsName o → (i ≡ o → ⊥) → (bound : List (List ℕ)) (c : ℕ) (name s w : List ℕ) (p : Position) (t : Term) (more rest : List (List ℕ))
    → IsChannel i o c name → position_read bound s w ≡ Some p → front_read k tight i o (bound ++ binder p ∷ []) more ≡ Some (t, rest)
    → front_read (suc k) tight i o bound (name ∷ s ∷ w ∷ codes ">->" ∷ more) ≡ Some (prefix (offer c p) [] t, rest)
prefix-reads k i o ni no ne bound c name s w p t more rest ch e h =
    name-read k i o bound name (s ∷ w ∷ codes ">->" ∷ more) (channel-name i o name c ni no ch)
    ∙ step-reads (channel_read i o name) (position_read bound s w) (λ p. front_read k tight i o (bound ++ binder p ∷ []) more) c p t rest (channel-read i o name c ne ch) e h

-- steps that are enough for so many words
abbrev pub Enough : Binding → ℕ → ℕ → Type 0
Enough tight n k = 2 * n ≤ k
Enough loose n k = 2 * n < k

-- where a behaviour ends: a loose one goes on at `##`
abbrev pub Ends : Binding → List (List ℕ) → Type 0
Ends tight rest = Unit {0}
Ends loose [] = Unit {0}
Ends loose (w ∷ ws) = bytes_eq w (codes "##") ≡ false

choice-ends : (loosely : List (List ℕ) → Option Front) (a : Term) (rest : List (List ℕ)) → Ends loose rest → choice_read loosely a rest ≡ Some (a, rest)
choice-ends loosely a [] e = refl
choice-ends loosely a (w ∷ ws) e = no (bytes_eq w (codes "##")) (beside a (loosely ws)) (Some (a, w ∷ ws)) e

pub front-reads : (i o : List ℕ) → IsName i → IsName o → (i ≡ o → ⊥) → {b : Binding} {bound ws : List (List ℕ)} {t : Term} → Spells i o b bound t ws
    → (k : ℕ) (rest : List (List ℕ)) → Enough b (length ws) k → Ends b rest → front_read k b i o bound (ws ++ rest) ≡ Some (t, rest)
front-reads i o ni no ne stops zero rest f e = absurd (omega (arith, f))
front-reads i o ni no ne stops (suc k) rest f e = refl
front-reads i o ni no ne (takes {more = more} c name x ch nm r) zero rest f e = absurd (omega (arith, f))
front-reads i o ni no ne {bound = bound} (takes {t = t} {more = more} c name x ch nm r) (suc k) rest f e =
    prefix-reads k i o ni no ne bound c name (codes "?") x (taking x) t (more ++ rest) rest ch (take-position bound x nm) (front-reads i o ni no ne r k rest (omega (arith, f)) tt)
front-reads i o ni no ne (gives_number {more = more} c name w n ch h r) zero rest f e = absurd (omega (arith, f))
front-reads i o ni no ne {bound = bound} (gives_number {t = t} {more = more} c name w n ch h r) (suc k) rest f e =
    prefix-reads k i o ni no ne bound c name (codes "!") w (give (val (num n))) t (more ++ rest) rest ch (number-position bound w n h) (front-reads i o ni no ne r k rest (omega (arith, f)) tt)
front-reads i o ni no ne (gives_variable {more = more} c name x s ch nm q r) zero rest f e = absurd (omega (arith, f))
front-reads i o ni no ne {bound = bound} (gives_variable {t = t} {more = more} c name x s ch nm q r) (suc k) rest f e =
    prefix-reads k i o ni no ne bound c name (codes "!") x (give (slot s)) t (more ++ rest) rest ch (slot-position bound x s nm q) (front-reads i o ni no ne r k rest (omega (arith, f)) tt)
front-reads i o ni no ne (groups {words = words} r) zero rest f e = absurd (omega (arith, f))
front-reads i o ni no ne {bound = bound} (groups {t = t} {words = words} r) (suc k) rest f e =
    let len : length (words ++ codes ")" ∷ []) ≡ length words + 1 = length-append words (codes ")" ∷ []) in
    ap (λ (z : List (List ℕ)). grouped (front_read k loose i o bound z)) (append_assoc words (codes ")" ∷ []) rest)
    ∙ ap grouped (front-reads i o ni no ne r k (codes ")" ∷ rest) (omega (arith, f, len)) refl)
front-reads i o ni no ne (alone {words = words} r) zero rest f e = absurd (omega (arith, f))
front-reads i o ni no ne {bound = bound} (alone {t = t} {words = words} r) (suc k) rest f e =
    ap (chosen (front_read k loose i o bound)) (front-reads i o ni no ne r k rest (omega (arith, f)) tt) ∙ choice-ends (front_read k loose i o bound) t rest e
front-reads i o ni no ne (chooses {left = left} {right = right} r q) zero rest f e = absurd (omega (arith, f))
front-reads i o ni no ne {bound = bound} (chooses {a = a} {b = b} {left = left} {right = right} r q) (suc k) rest f e =
    let len : length (left ++ codes "##" ∷ right) ≡ length left + length (codes "##" ∷ right) = length-append left (codes "##" ∷ right) in
    ap (λ (z : List (List ℕ)). chosen (front_read k loose i o bound) (front_read k tight i o bound z)) (append_assoc left (codes "##" ∷ right) rest)
    ∙ (ap (chosen (front_read k loose i o bound)) (front-reads i o ni no ne r k (codes "##" ∷ right ++ rest) (omega (arith, f, len)) tt)
    ∙ ap (beside a) (front-reads i o ni no ne q k rest (omega (arith, f, len)) e))

pub spells-read : (i o : List ℕ) → IsName i → IsName o → (i ≡ o → ⊥) → (ws : List (List ℕ)) (t : Term) → Spells i o loose [] t ws → behaviour_read i o ws ≡ Some t
spells-read i o ni no ne ws t r =
    ap (λ (z : List (List ℕ)). entire (front_read (suc (2 * length ws)) loose i o [] z)) (sym (append-nil ws))
    ∙ ap entire (front-reads i o ni no ne r (suc (2 * length ws)) [] (omega arith) tt)

-- ---- what is spelled is plain

number-fits : (v : ℕ) → v < 2 ^ 127 → fits (pos v) ≡ true
unfolding fits
number-fits v h = (Decides-ltb v (2 ^ 127)).1 h

slot-within : (k : ℕ) (ns : List (List ℕ)) (x : List ℕ) (found : Option ℕ) (s : ℕ) → slot_from k ns x found ≡ Some s → (found ≡ Some s) ⊎ (s < k + length ns)
slot-within k [] x found s h = inl h
slot-within k (n ∷ ns) x found s h = elim (slot-within (suc k) ns x (cond (bytes_eq n x) (Some k) found) s h) [
  | inl e ↦ elim (by-test (bytes_eq n x) (Some k) found (Some s) e) [
    | inl d ↦ let q : k ≡ s = cc in inr (omega arith)
    | inr d ↦ inl d.1
  ]
  | inr e ↦ inr (omega arith)
]

slot-bound : (ns : List (List ℕ)) (x : List ℕ) (s : ℕ) → slot_of ns x ≡ Some s → nat_lt s (length ns) ≡ true
slot-bound ns x s h = elim (slot-within 0 ns x None s h) [
  | inl e ↦ absurd (cc)
  | inr e ↦ (Decides-ltb s (length ns)).1 (omega arith)
]

one-more : (bound : List (List ℕ)) (x : List ℕ) (t : Term) → IsPlain (length (bound ++ x ∷ [])) t → IsPlain (length bound + 1) t
one-more bound x t h = subst (λ (k : ℕ). IsPlain k t) (length-append bound (x ∷ [])) h

pub spells-plain : (i o : List ℕ) {b : Binding} {bound ws : List (List ℕ)} {t : Term} → Spells i o b bound t ws → IsPlain (length bound) t
spells-plain i o stops = tt
spells-plain i o {bound = bound} (takes {t = t} c name x ch nm r) = (tt, one-more bound x t (spells-plain i o r))
spells-plain i o {bound = bound} (gives_number {t = t} c name w n ch h r) =
    (subst (λ (z : ℤ). fits z ≡ true) (sym h.2) (number-fits (digits_value 10 w) h.3), one-more bound [] t (spells-plain i o r))
spells-plain i o {bound = bound} (gives_variable {t = t} c name x k ch nm e r) = (slot-bound bound x k e, one-more bound [] t (spells-plain i o r))
spells-plain i o (groups r) = spells-plain i o r
spells-plain i o (alone r) = spells-plain i o r
spells-plain i o (chooses r q) = (spells-plain i o r, spells-plain i o q)
