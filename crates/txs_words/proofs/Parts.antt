-- What is read of hosts, ports and names is what they spell.
use Rattle.std.proofs.Common.{◌≡◌, inl, inr, ℕ, zero, suc, ◌-◌, ◌<◌, ◌≤◌, ◌^◌, true, false, ◌&&◌, eqb, eqb-true, eq-eqb, nat_lt, nat_le, List, [], ◌∷◌, ◌++◌, length, take, drop, length-append, Option, Some, None, refl, sym, ◌∙◌, ap, subst, arith, bytes_eq, codes}
use Rattle.std.proofs.lemmas.Bool.Decides.{Decides-ltb, nat_tests}
use Rattle.std.proofs.lemmas.List.{take-append-drop}
use Rattle.std.specs.List.{list_all}
use Rattle.std.specs.Str.{IsUtf8}
use Rattle.std.specs.Str.Parse.{digits_value}
use Rattle.txs_values.specs.Spelling.{is_digit}
use Rattle.txs_words.specs.File.{is_host_byte, quoted, IsPort}
use Rattle.txs_words.specs.Form.{has_byte, is_name, IsName}
use Rattle.txs_words.specs.inner.FileWords.{FileWords, unquoted, host_read, same_port, are_named}
use Rattle.txs_words.specs.inner.Parsing.{are_digits, nonzero, port_read}
use Rattle.txs_words.proofs.Apart.{take-before, drop-before}
use Rattle.txs_words.proofs.Digits.{digits-here, digits-numeral}
use Rattle.txs_values.proofs.Tests.{by-test, le-true, and-both, both-and, eq-bytes, yes, no}
use Rattle.txs_words.proofs.Texts.{quoted-text}

-- ---- hosts

unquoted-cuts : (front host back h : List ℕ) → unquoted front host back ≡ Some h → (front ≡ 34 ∷ []) × (host ≡ h) × (back ≡ 34 ∷ []) × (list_all is_host_byte h ≡ true)
unquoted-cuts front host back h e =
    elim (by-test (bytes_eq front (codes "\"") && (bytes_eq back (codes "\"") && list_all is_host_byte host)) (Some host) None (Some h) e) [
      | inl d ↦ let f = and-both (bytes_eq front (codes "\"")) _ d.0 in
          let g = and-both (bytes_eq back (codes "\"")) (list_all is_host_byte host) f.1 in
          let q : host ≡ h = cc in
          (eq-bytes front (codes "\"") f.0, q, eq-bytes back (codes "\"") g.0, subst (λ (z : List ℕ). list_all is_host_byte z ≡ true) q g.1)
      | inr d ↦ absurd (cc)
    ]

pub host-quoted : (w h : List ℕ) → host_read w ≡ Some h → (w ≡ quoted h) × (list_all is_host_byte h ≡ true)
host-quoted w h e =
    elim (by-test (nat_le 2 (length w)) (unquoted (take 1 w) (take (length (drop 1 w) - 1) (drop 1 w)) (drop (length (drop 1 w) - 1) (drop 1 w))) None (Some h) e) [
      | inl d ↦ let g = unquoted-cuts (take 1 w) (take (length (drop 1 w) - 1) (drop 1 w)) (drop (length (drop 1 w) - 1) (drop 1 w)) h d.1 in
          let rest : drop 1 w ≡ h ++ 34 ∷ [] = sym (take-append-drop (length (drop 1 w) - 1) (drop 1 w)) ∙ (ap (λ (q : List ℕ). q ++ drop (length (drop 1 w) - 1) (drop 1 w)) g.1 ∙ ap (λ (q : List ℕ). h ++ q) g.2) in
          (sym (take-append-drop 1 w) ∙ (ap (λ (q : List ℕ). q ++ drop 1 w) g.0 ∙ ap (λ (q : List ℕ). 34 ∷ q) rest), g.3)
      | inr d ↦ absurd (cc)
    ]

pub quoted-host : (h : List ℕ) → list_all is_host_byte h ≡ true → host_read (quoted h) ≡ Some h
quoted-host h e =
    let long : 2 ≤ length (quoted h) = omega (arith, length-append h (34 ∷ [])) in
    yes (nat_le 2 (length (quoted h))) (unquoted (34 ∷ []) (take (length (h ++ 34 ∷ []) - 1) (h ++ 34 ∷ [])) (drop (length (h ++ 34 ∷ []) - 1) (h ++ 34 ∷ []))) None (le-true 2 (length (quoted h)) long)
    ∙ (ap (λ (q : List ℕ). unquoted (34 ∷ []) q (drop (length (h ++ 34 ∷ []) - 1) (h ++ 34 ∷ []))) (take-before h (34 ∷ []) 1 refl)
    ∙ (ap (λ (q : List ℕ). unquoted (34 ∷ []) h q) (drop-before h (34 ∷ []) 1 refl)
    ∙ yes (list_all is_host_byte h) (Some h) None e))

pub host-text : (w h : List ℕ) → IsUtf8 w → host_read w ≡ Some h → IsUtf8 h
host-text w h u e = quoted-text h (subst IsUtf8 (host-quoted w h e).0 u)

-- ---- ports

nonzero-is : (v n : ℕ) → nonzero v ≡ Some n → (v ≡ n) × (1 ≤ n)
nonzero-is v n h = elim (by-test (eqb v 0) None (Some v) (Some n) h) [
  | inl d ↦ absurd (cc)
  | inr d ↦ let q : v ≡ n = cc in
      let z : eqb n 0 ≡ false = subst (λ (k : ℕ). eqb k 0 ≡ false) q d.0 in
      (q, some-port n z)
]
  where
    some-port : (k : ℕ) → eqb k 0 ≡ false → 1 ≤ k
    some-port zero e = absurd (cc)
    some-port (suc k) e = omega arith

port-spelled : (w : List ℕ) (n : ℕ) → port_read w ≡ Some n → IsPort w n
port-spelled w n h = elim (by-test (are_digits w && nat_lt (digits_value 10 w) (2 ^ 16)) (nonzero (digits_value 10 w)) None (Some n) h) [
  | inl d ↦ let p = and-both (are_digits w) (nat_lt (digits_value 10 w) (2 ^ 16)) d.0 in
      let z = nonzero-is (digits_value 10 w) n d.1 in
      let small = (Decides-ltb (digits_value 10 w) (2 ^ 16)).0 p.1 in
      let most : n ≤ 65535 = omega (arith, z.0) in
      ((and-both (has_byte w) (list_all is_digit w) p.0).1, digits-numeral w p.0, z.0, z.1, most)
  | inr d ↦ absurd (cc)
]

not-zero : (n : ℕ) → 1 ≤ n → eqb n 0 ≡ false
not-zero n h = grind (arith, nat_tests)

nonzero-some : (n : ℕ) → 1 ≤ n → nonzero n ≡ Some n
nonzero-some n h = no (eqb n 0) None (Some n) (not-zero n h)

port-read : (w : List ℕ) (n : ℕ) → IsPort w n → port_read w ≡ Some n
port-read w n h =
    let v : digits_value 10 w < 2 ^ 16 = omega (arith, h.2, h.4) in
    yes (are_digits w && nat_lt (digits_value 10 w) (2 ^ 16)) (nonzero (digits_value 10 w)) None (both-and (are_digits w) _ (digits-here w h.0 h.1.0) ((Decides-ltb (digits_value 10 w) (2 ^ 16)).1 v))
    ∙ (ap nonzero h.2 ∙ nonzero-some n h.3)

both-some : (m n : Option ℕ) (k : ℕ) → same_port m n ≡ Some k → (m ≡ Some k) × (n ≡ Some k)
both-some None n k h = absurd (cc)
both-some (Some a) None k h = absurd (cc)
both-some (Some a) (Some b) k h = elim (by-test (eqb a b) (Some a) None (Some k) h) [
  | inl d ↦ let q : a ≡ k = cc in (ap Some q, ap Some (sym (eqb-true a b d.0) ∙ q))
  | inr d ↦ absurd (cc)
]

pub ports-spelled : (w x : List ℕ) (n : ℕ) → same_port (port_read w) (port_read x) ≡ Some n → IsPort w n × IsPort x n
ports-spelled w x n h = let b = both-some (port_read w) (port_read x) n h in (port-spelled w n b.0, port-spelled x n b.1)

pub ports-read : (w x : List ℕ) (n : ℕ) → IsPort w n → IsPort x n → same_port (port_read w) (port_read x) ≡ Some n
ports-read w x n a b =
    ap (λ (q : Option ℕ). same_port q (port_read x)) (port-read w n a)
    ∙ (ap (λ (q : Option ℕ). same_port (Some n) q) (port-read x n b)
    ∙ yes (eqb n n) (Some n) None (eq-eqb n n refl))

-- ---- names

pub named-each : (p : FileWords) → are_named p ≡ true → IsName p.chandef × IsName p.input × IsName p.output × IsName p.name × IsName p.link × IsName p.sent × IsName p.heard
named-each p h =
    let a = and-both (is_name p.chandef) _ h in
    let b = and-both (is_name p.input) _ a.1 in
    let c = and-both (is_name p.output) _ b.1 in
    let d = and-both (is_name p.name) _ c.1 in
    let e = and-both (is_name p.link) _ d.1 in
    let f = and-both (is_name p.sent) (is_name p.heard) e.1 in
    (a.0, b.0, c.0, d.0, e.0, f.0, f.1)

pub each-named : (p : FileWords) → IsName p.chandef × IsName p.input × IsName p.output × IsName p.name × IsName p.link × IsName p.sent × IsName p.heard → are_named p ≡ true
each-named p h =
    both-and (is_name p.chandef) _ h.0 (both-and (is_name p.input) _ h.1 (both-and (is_name p.output) _ h.2 (both-and (is_name p.name) _ h.3 (both-and (is_name p.link) _ h.4 (both-and (is_name p.sent) _ h.5 h.6)))))
