-- What the reader of a constructor's name finds, by the names and the numbers of the table.
use Rattle.std.proofs.Common.{◌≡◌, ℕ, zero, suc, ◌+◌, ◌≤◌, Bool, true, false, cond, ◌⊎◌, inl, inr, eqb, eqb-true, min, List, [], ◌∷◌, ◌++◌, length, Option, Some, refl, sym, ap, subst, ◌∙◌, append_assoc, length-append, arith}
use Rattle.txs_values.specs.declared.reading.Kind.{Kind}
use Rattle.txs_values.specs.declared.reading.Kind.TheVariants.{Wrong}
use Rattle.txs_values.specs.Value.{Field, Constructor, Table, Place, place_in, place_from, place_of}
use Rattle.txs_values.specs.Spelling.{is_name_byte, run_of, past_run, Made, count_of}
use Rattle.txs_values.specs.Spelled.{IsName, IsNamed}
use Rattle.txs_values.specs.Reading.{Outcome, ok, stop, after, either, goes_on, name_read, made_among, made_read}
use Rattle.txs_values.proofs.spellings.Bytes.{Stops, name-each, run-append, past-append}
use Rattle.txs_values.proofs.spellings.Fronts.{same_some, same_list}
use Rattle.txs_values.proofs.spellings.Places as places
use Rattle.txs_values.proofs.spellings.Places.{behind-count, found-same, same_made}
use Rattle.txs_values.proofs.spellings.Found.{head, Left, Found, Sound, head-before}
use Rattle.txs_values.proofs.spellings.Tokens.{sound_name, BeginsName, name-is}

pub same_ok : {A : Type 0} {x y : A} {r s : List ℕ} → ok x r ≡ ok y s → (x ≡ y) × (r ≡ s)
same_ok {A} {x} {y} {r} {s} e = (ap value e, ap rest e)
  where
    value : Outcome A → A
    value (ok a q) = a
    value (stop k n) = x

    rest : Outcome A → List ℕ
    rest (ok a q) = q
    rest (stop k n) = r

pub no_stop : {A : Type 0} {x : A} {r : List ℕ} {k : Kind} {n : ℕ} → ok x r ≡ stop k n → ⊥
no_stop e = cc

pub stop-kind : {A : Type 0} {k l : Kind} {n m : ℕ} → ◌≡◌ {A = Outcome A} (stop k n) (stop l m) → k ≡ l
stop-kind {A} {k} {l} {n} {m} e = ap kind e
  where
    kind : Outcome A → Kind
    kind (ok a r) = k
    kind (stop q i) = q

pub stop-count : {A : Type 0} {k l : Kind} {n m : ℕ} → ◌≡◌ {A = Outcome A} (stop k n) (stop l m) → n ≡ m
stop-count {A} {k} {l} {n} {m} e = ap count e
  where
    count : Outcome A → ℕ
    count (ok a r) = n
    count (stop q i) = i

pub stops-goes : (r : List ℕ) → goes_on r ≡ false → Stops is_name_byte r
stops-goes [] e = tt
stops-goes (b ∷ r) e = e

-- ---- a name in front

name-step : (x b : ℕ) (xs bs r : List ℕ) (t : Bool) → eqb b x ≡ t → (name_read xs bs ≡ ok tt r → (bs ≡ xs ++ r) × (goes_on r ≡ false))
    → cond t (name_read xs bs) (stop Wrong (length (b ∷ bs))) ≡ ok tt r → (b ∷ bs ≡ x ∷ (xs ++ r)) × (goes_on r ≡ false)
name-step x b xs bs r true e ih h = let p = ih h in (ap (λ (c : ℕ). c ∷ bs) (eqb-true b x e) ∙ ap (λ (l : List ℕ). x ∷ l) p.0, p.1)
name-step x b xs bs r false e ih h = absurd (no_stop (sym h))

name-end : (bs r : List ℕ) (t : Bool) → goes_on bs ≡ t → cond t (stop Wrong (length bs)) (ok (tt {0}) bs) ≡ ok tt r → (bs ≡ r) × (goes_on r ≡ false)
name-end bs r true e h = absurd (no_stop (sym h))
name-end bs r false e h = let p = (same_ok h).1 in (p, ap goes_on (sym p) ∙ e)

pub name-front : (x bs r : List ℕ) → name_read x bs ≡ ok tt r → (bs ≡ x ++ r) × (goes_on r ≡ false)
name-front [] bs r h = name-end bs r (goes_on bs) refl h
name-front (x ∷ xs) [] r h = absurd (no_stop (sym h))
name-front (x ∷ xs) (b ∷ bs) r h = name-step x b xs bs r (eqb b x) refl (name-front xs bs r) h

-- ---- the constructor that is found

pub record InFront (n j : ℕ) (xs : List Constructor) (bs : List ℕ) (m : Made) (r : List ℕ) : Type 0 where
  pub name : List ℕ
  pub parts : bs ≡ name ++ r
  pub ends : goes_on r ≡ false
  pub found : places.Found n j xs name m

among-step : (n j : ℕ) (x : Constructor) (xs : List Constructor) (bs r : List ℕ) (m : Made) (o : Outcome (Unit {0})) (p : Outcome Made) → name_read x.name bs ≡ o
    → (p ≡ ok m r → InFront (suc n) j xs bs m r) → either (after o (λ _ q. ok (record { number = n; fields = x.fields }) q)) p ≡ ok m r → InFront n j (x ∷ xs) bs m r
among-step n j x xs bs r m (ok a q) p e ih h =
    let s = same_ok h in
    let f = name-front x.name bs q e in
    subst (λ l. InFront n j (x ∷ xs) bs m l) s.1
    (subst (λ y. InFront n j (x ∷ xs) bs y q) s.0 (record {
      name = x.name;
      parts = f.0;
      ends = f.1;
      found = record { number = zero; counted = omega arith; placed = λ go. refl };
    }))
among-step n j x xs bs r m (stop k i) (ok y q) e ih h =
    let f = ih h in
    let c : m.number ≡ suc n + f.found.number = f.found.counted in
    record { name = f.name; parts = f.parts; ends = f.ends; found = record { number = suc f.found.number; counted = omega (arith, c); placed = f.found.placed } }
among-step n j x xs bs r m (stop k i) (stop l o) e ih h = absurd (no_stop (sym h))

among-found : (n j : ℕ) (xs : List Constructor) (bs r : List ℕ) (m : Made) → made_among n xs bs ≡ ok m r → InFront n j xs bs m r
among-found n j [] bs r m h = absurd (no_stop (sym h))
among-found n j (x ∷ xs) bs r m h = among-step n j x xs bs r m (name_read x.name bs) (made_among (suc n) xs bs) refl (λ e. among-found (suc n) j xs bs r m e) h

length-count : (xs : List Constructor) → count_of xs ≡ length xs
length-count [] = refl
length-count (x ∷ xs) = ap suc (length-count xs)

pub record Named (n j : ℕ) (table : Table) (k : ℕ) (bs : List ℕ) (m : Made) (r : List ℕ) : Type 0 where
  pub name : List ℕ
  pub number : ℕ
  pub parts : bs ≡ name ++ r
  pub ends : goes_on r ≡ false
  pub counted : m.number ≡ n + number
  pub placed : place_from j table number ≡ Some (record { ty = j + k; constructor = record { name = name; fields = m.fields } })

made-found : (n j : ℕ) (table : Table) (k : ℕ) (bs r : List ℕ) (m : Made) → made_read n table k bs ≡ ok m r → Named n j table k bs m r
made-found n j [] k bs r m h = absurd (no_stop (sym h))
made-found n j (t ∷ ts) zero bs r m h =
    let f = among-found n j t.constructors bs r m h in
    let e : j ≡ j + 0 = omega arith in
    record {
      name = f.name;
      number = f.found.number;
      parts = f.parts;
      ends = f.ends;
      counted = f.found.counted;
      placed = f.found.placed (place_from (suc j) ts) ∙ ap (λ i. Some (record { ty = i; constructor = record { name = f.name; fields = m.fields } })) e;
    }
made-found n j (t ∷ ts) (suc k) bs r m h =
    let f = made-found (n + length t.constructors) (suc j) ts k bs r m h in
    let c : m.number ≡ (n + length t.constructors) + f.number = f.counted in
    let e : suc j + k ≡ j + suc k = omega arith in
    record {
      name = f.name;
      number = length t.constructors + f.number;
      parts = f.parts;
      ends = f.ends;
      counted = omega (arith, c);
      placed = ap (λ i. place_from j (t ∷ ts) (i + f.number)) (sym (length-count t.constructors)) ∙ behind-count j t.constructors (place_from (suc j) ts) f.number ∙ f.placed
          ∙ ap (λ i. Some (record { ty = i; constructor = record { name = f.name; fields = m.fields } })) e;
    }

-- the name of a constructor of type k stands in front, and no byte of a name behind it
pub record IsMade (table : Table) (k : ℕ) (m : Made) (name : List ℕ) : Type 0 where
  pub placed : place_of table m.number ≡ Some (record { ty = k; constructor = record { name = name; fields = m.fields } })

pub made-placed : (table : Table) (k : ℕ) (bs r : List ℕ) (m : Made) → made_read 0 table k bs ≡ ok m r → (name : List ℕ) × (bs ≡ name ++ r) × (goes_on r ≡ false) × IsMade table k m name
made-placed table k bs r m h =
    let f = made-found 0 0 table k bs r m h in
    let c : m.number ≡ 0 + f.number = f.counted in
    let e : m.number ≡ f.number = omega (arith, c) in
    let d : 0 + k ≡ k = omega arith in (
      f.name,
      f.parts,
      f.ends,
      record { placed = ap (place_of table) e ∙ f.placed ∙ ap (λ i. Some (record { ty = i; constructor = record { name = f.name; fields = m.fields } })) d },
    )

-- ---- what is named is found

abbrev IsFound : Outcome Made → Type 0
IsFound o = (m : Made) × (r : List ℕ) × (o ≡ ok m r)

either-second : {A : Type 0} (o p : Outcome A) → ((a : A) × (r : List ℕ) × (p ≡ ok a r)) → (a : A) × (r : List ℕ) × (either o p ≡ ok a r)
either-second (ok a r) p f = (a, r, refl)
either-second (stop k n) p f = (f.0, f.1, ap (either (stop k n)) f.2)

placed-in : (n j : ℕ) (xs : List Constructor) (c : ℕ) (go : ℕ → Option Place) (p : Place) (rest : List ℕ) → goes_on rest ≡ false → place_in j xs c go ≡ Some p
    → ((p.ty ≡ j) × IsFound (made_among n xs (p.constructor.name ++ rest))) ⊎ ((d : ℕ) × (go d ≡ Some p))
placed-in n j [] c go p rest g h = inr (c, h)
placed-in n j (x ∷ xs) zero go p rest g h =
    inl (subst (λ (q : Place). (q.ty ≡ j) × IsFound (made_among n (x ∷ xs) (q.constructor.name ++ rest))) (same_some h) (
      refl,
      (record { number = n; fields = x.fields }, rest, ap (λ o. either (after o (λ _ q. ok (record { number = n; fields = x.fields }) q)) (made_among (suc n) xs (x.name ++ rest))) (name-is x.name rest g)),
    ))
placed-in n j (x ∷ xs) (suc c) go p rest g h =
    elim (placed-in (suc n) j xs c go p rest g h) [
      | inl q ↦ inl (q.0, either-second (after (name_read x.name (p.constructor.name ++ rest)) (λ _ r. ok (record { number = n; fields = x.fields }) r)) (made_among (suc n) xs (p.constructor.name ++ rest)) q.1)
      | inr q ↦ inr q
    ]

placed-from : (n j : ℕ) (table : Table) (c : ℕ) (p : Place) (rest : List ℕ) → goes_on rest ≡ false → place_from j table c ≡ Some p
    → (k : ℕ) × (p.ty ≡ j + k) × IsFound (made_read n table k (p.constructor.name ++ rest))
placed-from n j [] c p rest g h = absurd (cc)
placed-from n j (t ∷ ts) c p rest g h =
    elim (placed-in n j t.constructors c (place_from (suc j) ts) p rest g h) [
      | inl q ↦ (let e : p.ty ≡ j = q.0 in (zero, omega (arith, e), q.1))
      | inr q ↦ (let r = placed-from (n + length t.constructors) (suc j) ts q.0 p rest g q.1 in let e : p.ty ≡ suc j + r.0 = r.1 in (suc r.0, omega (arith, e), r.2))
    ]

-- two names in front of one text are one
pub one-name : (a b r s : List ℕ) → IsName a → IsName b → a ++ r ≡ b ++ s → goes_on r ≡ false → goes_on s ≡ false → (a ≡ b) × (r ≡ s)
one-name [] b r s m n e g h = absurd m
one-name (x ∷ a) [] r s m n e g h = absurd n
one-name (x ∷ a) (y ∷ b) r s m n e g h =
    let p = same_list e in
    let ea = name-each x a m in
    let eb = name-each y b n in
    let sr = stops-goes r g in
    let ss = stops-goes s h in
    let q : a ≡ b = sym (run-append is_name_byte a r ea sr) ∙ ap (run_of is_name_byte) p.1 ∙ run-append is_name_byte b s eb ss in (
      ap (λ (c : ℕ). c ∷ a) p.0 ∙ ap (λ (l : List ℕ). y ∷ l) q,
      sym (past-append is_name_byte a r ea sr) ∙ ap (past_run is_name_byte) p.1 ∙ past-append is_name_byte b s eb ss,
    )

pub made-is : (table : Table) → IsNamed table → (c k : ℕ) (name : List ℕ) (fs : List Field) (rest : List ℕ)
    → place_of table c ≡ Some (record { ty = k; constructor = record { name = name; fields = fs } }) → goes_on rest ≡ false
    → made_read 0 table k (name ++ rest) ≡ ok (record { number = c; fields = fs }) rest
made-is table named c k name fs rest h g =
    let f = placed-from 0 0 table c (record { ty = k; constructor = record { name = name; fields = fs } }) rest g h in
    by f.0 f.1 f.2.0 f.2.1 f.2.2
  where
    by : (i : ℕ) → k ≡ 0 + i → (m : Made) (r : List ℕ) → made_read 0 table i (name ++ rest) ≡ ok m r → made_read 0 table k (name ++ rest) ≡ ok (record { number = c; fields = fs }) rest
    by i d m r q =
        let e : i ≡ k = omega (arith, d) in
        let u : made_read 0 table k (name ++ rest) ≡ ok m r = subst (λ j. made_read 0 table j (name ++ rest) ≡ ok m r) e q in
        let p = made-placed table k (name ++ rest) r m u in
        let one = one-name name p.0 rest r (named.names c (record { ty = k; constructor = record { name = name; fields = fs } }) h) (named.names m.number (record { ty = k; constructor = record { name = p.0; fields = m.fields } }) p.3.placed) p.1 g p.2 in
        let at : place_of table m.number ≡ Some (record { ty = k; constructor = record { name = name; fields = m.fields } }) = p.3.placed ∙ ap (λ (l : List ℕ). Some (record { ty = k; constructor = record { name = l; fields = m.fields } })) (sym one.0) in
        let s = found-same table named c k name fs m h at in
        u ∙ ap (λ x. ok x r) (same_made m c fs s.0 s.1) ∙ ap (λ (l : List ℕ). ok (record { number = c; fields = fs }) l) (sym one.1)

-- ---- where no name is found

-- of two fronts of one text the one is longer
pub further : (a r b s : List ℕ) → a ++ r ≡ b ++ s → length s ≤ length r → (x : List ℕ) × (b ≡ a ++ x) × (r ≡ x ++ s)
further [] r b s e l = (b, refl, e)
further (c ∷ a) r [] s e l = absurd (let k : suc (length (a ++ r)) ≡ length s = ap length e in let m = length-append a r in omega (arith, l, k, m))
further (c ∷ a) r (d ∷ b) s e l =
    let p = same_list e in
    let f = further a r b s p.1 l in
    (f.0, ap (λ (q : ℕ). q ∷ b) (sym p.0) ∙ ap (λ (q : List ℕ). c ∷ q) f.1, f.2)

le-or : (n m : ℕ) → (n ≤ m) ⊎ (m ≤ n)
le-or zero m = inl (omega arith)
le-or (suc n) zero = inr (omega arith)
le-or (suc n) (suc m) = elim (le-or n m) [ inl h ↦ inl (omega (arith, h)) | inr h ↦ inr (omega (arith, h)) ]

module _ (N : Type 0) {A : Type 0} (f g : List ℕ → Outcome A) (H : Kind → List ℕ → List ℕ → Type 0) (bs : List ℕ) (n m : ℕ) (x : Left N f H bs Wrong n) (y : Left N g H bs Wrong m) where
  second-further : m ≤ n → Left N (λ w. either (f w) (g w)) H bs Wrong (min n m)
  second-further l =
      let c = x.count in
      let d = y.count in
      let p = further x.used x.rest y.used y.rest (sym x.split ∙ y.split) (omega (arith, l, c, d)) in
      record {
        used = y.used;
        rest = y.rest;
        split = y.split;
        count = omega (arith, l, d);
        here = y.here;
        local = λ nn e w h.
            let a : f (y.used ++ w) ≡ stop Wrong (length (p.0 ++ w)) = ap f (ap (λ (q : List ℕ). q ++ w) p.1 ∙ append_assoc x.used p.0 w) ∙ x.local nn e (p.0 ++ w) (head-before p.0 y.rest w h ∙ sym (ap head p.2)) in
            let k = length-append p.0 w in
            let i : min (length (p.0 ++ w)) (length w) ≡ length w = omega (arith, k) in
            ap (λ o. either o (g (y.used ++ w))) a ∙ ap (either (stop Wrong (length (p.0 ++ w)))) (y.local nn e w h) ∙ ap (stop Wrong) i;
      }

  first-further : n ≤ m → Left N (λ w. either (f w) (g w)) H bs Wrong (min n m)
  first-further l =
      let c = x.count in
      let d = y.count in
      let p = further y.used y.rest x.used x.rest (sym y.split ∙ x.split) (omega (arith, l, c, d)) in
      record {
        used = x.used;
        rest = x.rest;
        split = x.split;
        count = omega (arith, l, c);
        here = x.here;
        local = λ nn e w h.
            let a : g (x.used ++ w) ≡ stop Wrong (length (p.0 ++ w)) = ap g (ap (λ (q : List ℕ). q ++ w) p.1 ∙ append_assoc y.used p.0 w) ∙ y.local nn e (p.0 ++ w) (head-before p.0 x.rest w h ∙ sym (ap head p.2)) in
            let k = length-append p.0 w in
            let i : min (length w) (length (p.0 ++ w)) ≡ length w = omega (arith, k) in
            ap (λ o. either o (g (x.used ++ w))) (x.local nn e w h) ∙ ap (either (stop Wrong (length w))) a ∙ ap (stop Wrong) i;
      }

  pub either-left : Left N (λ w. either (f w) (g w)) H bs Wrong (min n m)
  either-left = elim (le-or n m) [ inl l ↦ first-further l | inr l ↦ second-further l ]

pub left-map : (N : Type 0) {A : Type 0} (f : List ℕ → Outcome A) (H K : Kind → List ℕ → List ℕ → Type 0) → ((k : Kind) (u r : List ℕ) → H k u r → K k u r)
    → (bs : List ℕ) (k : Kind) (n : ℕ) → Left N f H bs k n → Left N f K bs k n
left-map N f H K h bs k n x = record { used = x.used; rest = x.rest; split = x.split; count = x.count; here = h k x.used x.rest x.here; local = x.local }

pub left-at : (N : Type 0) {A : Type 0} (f : List ℕ → Outcome A) (H K : Kind → List ℕ → List ℕ → Type 0) (bs : List ℕ) (k : Kind) (n : ℕ) → ((u r : List ℕ) → H k u r → K k u r) → Left N f H bs k n → Left N f K bs k n
left-at N f H K bs k n h x = record { used = x.used; rest = x.rest; split = x.split; count = x.count; here = h x.used x.rest x.here; local = x.local }

pub left-after : (N : Type 0) {A B : Type 0} (f : List ℕ → Outcome A) (go : A → List ℕ → Outcome B) (H : Kind → List ℕ → List ℕ → Type 0) (bs : List ℕ) (k : Kind) (n : ℕ) → Left N f H bs k n → Left N (λ w. after (f w) go) H bs k n
left-after N f go H bs k n x = record { used = x.used; rest = x.rest; split = x.split; count = x.count; here = x.here; local = λ nn e w h. ap (λ o. after o go) (x.local nn e w h) }

-- nothing yet, or a name of these begins so
abbrev pub BeginsAmong : ℕ → List Constructor → Kind → List ℕ → List ℕ → Type 0
BeginsAmong j xs k u r =
    (u ≡ []) ⊎ ((number : ℕ) × (name : List ℕ) × (fs : List Field) × (y : List ℕ) × ((go : ℕ → Option Place) → place_in j xs number go ≡ Some (record { ty = j; constructor = record { name = name; fields = fs } })) × (name ≡ u ++ y))

abbrev pub BeginsTable : ℕ → Table → ℕ → Kind → List ℕ → List ℕ → Type 0
BeginsTable j table k q u r =
    (u ≡ []) ⊎ ((number : ℕ) × (name : List ℕ) × (fs : List Field) × (y : List ℕ) × (place_from j table number ≡ Some (record { ty = j + k; constructor = record { name = name; fields = fs } })) × (name ≡ u ++ y))

module _ (N : Type 0) (j : ℕ) where
  abbrev LeftAmong : ℕ → List Constructor → List ℕ → Kind → ℕ → Type 0
  LeftAmong n xs bs k i = (k ≡ Wrong) × Left N (made_among n xs) (BeginsAmong j xs) bs Wrong i

  among-step-left : (n : ℕ) (x : Constructor) (xs : List Constructor) (bs : List ℕ) (o : Outcome (Unit {0})) (p : Outcome Made) → name_read x.name bs ≡ o → made_among (suc n) xs bs ≡ p
      → ((k : Kind) (i : ℕ) → p ≡ stop k i → LeftAmong (suc n) xs bs k i) → (k : Kind) (i : ℕ)
      → either (after o (λ _ q. ok (record { number = n; fields = x.fields }) q)) p ≡ stop k i → LeftAmong n (x ∷ xs) bs k i
  among-step-left n x xs bs (ok a q) p e f ih k i h = absurd (no_stop h)
  among-step-left n x xs bs (stop l o) (ok m r) e f ih k i h = absurd (no_stop h)
  among-step-left n x xs bs (stop l o) (stop q v) e f ih k i h =
      let s = ih q v refl in
      let name : Left N (name_read x.name) (BeginsName x.name) bs l o = subst (λ (z : Outcome (Unit {0})). Found N (name_read x.name) (λ _ u. u ≡ x.name) (BeginsName x.name) bs z) e (sound_name N x.name bs) in
      let wrong = name.here.0 in
      let first = left-after N (name_read x.name) (λ _ r. ok (record { number = n; fields = x.fields }) r) (BeginsAmong j (x ∷ xs)) bs Wrong o
      (left-map N (name_read x.name) (BeginsName x.name) (BeginsAmong j (x ∷ xs)) (λ _ u r b. inr (zero, x.name, x.fields, b.1, (λ go. refl), b.2)) bs Wrong o
      (subst (λ z. Left N (name_read x.name) (BeginsName x.name) bs z o) wrong name)) in
      let second = left-map N (made_among (suc n) xs) (BeginsAmong j xs) (BeginsAmong j (x ∷ xs)) (λ _ u r b. more u b) bs Wrong v s.1 in
      let t : ◌≡◌ {A = Outcome Made} (stop Wrong (min o v)) (stop k i) = ap (λ z. stop z (min o v)) (sym s.0) ∙ h in
      (sym (stop-kind t), subst (λ z. Left N (made_among n (x ∷ xs)) (BeginsAmong j (x ∷ xs)) bs Wrong z) (stop-count t) (either-left N (λ w. after (name_read x.name w) (λ _ r. ok (record { number = n; fields = x.fields }) r)) (made_among (suc n) xs) (BeginsAmong j (x ∷ xs)) bs o v first second))
    where
      more : (u : List ℕ) → BeginsAmong j xs Wrong u [] → BeginsAmong j (x ∷ xs) Wrong u []
      more u (inl z) = inl z
      more u (inr b) = inr (suc b.0, b.1, b.2, b.3, b.4, b.5)

  among-left : (n : ℕ) (xs : List Constructor) (bs : List ℕ) (k : Kind) (i : ℕ) → made_among n xs bs ≡ stop k i → LeftAmong n xs bs k i
  among-left n [] bs k i h = (
    sym (stop-kind h),
    subst (λ z. Left N (made_among n []) (BeginsAmong j []) bs Wrong z) (stop-count h) (record { used = []; rest = bs; split = refl; count = refl; here = inl refl; local = λ _ _ w e. refl }),
  )
  among-left n (x ∷ xs) bs k i h = among-step-left n x xs bs (name_read x.name bs) (made_among (suc n) xs bs) refl refl (λ q v e. among-left (suc n) xs bs q v e) k i h

table-left : (N : Type 0) (n j : ℕ) (table : Table) (k : ℕ) (bs : List ℕ) (q : Kind) (i : ℕ) → made_read n table k bs ≡ stop q i → (q ≡ Wrong) × Left N (made_read n table k) (BeginsTable j table k) bs Wrong i
table-left N n j [] k bs q i h = (
  sym (stop-kind h),
  subst (λ z. Left N (made_read n [] k) (BeginsTable j [] k) bs Wrong z) (stop-count h) (record { used = []; rest = bs; split = refl; count = refl; here = inl refl; local = λ _ _ w e. refl }),
)
table-left N n j (t ∷ ts) zero bs q i h =
    let s = among-left N j n t.constructors bs q i h in
    (s.0, left-map N (made_among n t.constructors) (BeginsAmong j t.constructors) (BeginsTable j (t ∷ ts) zero) (λ _ u r b. more u b) bs Wrong i s.1)
  where
    more : (u : List ℕ) → BeginsAmong j t.constructors Wrong u [] → BeginsTable j (t ∷ ts) zero Wrong u []
    more u (inl z) = inl z
    more u (inr b) =
        let e : j ≡ j + 0 = omega arith in
        inr (b.0, b.1, b.2, b.3, b.4 (place_from (suc j) ts) ∙ ap (λ v. Some (record { ty = v; constructor = record { name = b.1; fields = b.2 } })) e, b.5)
table-left N n j (t ∷ ts) (suc k) bs q i h =
    let s = table-left N (n + length t.constructors) (suc j) ts k bs q i h in
    (s.0, left-map N (made_read (n + length t.constructors) ts k) (BeginsTable (suc j) ts k) (BeginsTable j (t ∷ ts) (suc k)) (λ _ u r b. more u b) bs Wrong i s.1)
  where
    more : (u : List ℕ) → BeginsTable (suc j) ts k Wrong u [] → BeginsTable j (t ∷ ts) (suc k) Wrong u []
    more u (inl z) = inl z
    more u (inr b) =
        let e : suc j + k ≡ j + suc k = omega arith in
        inr (
          count_of t.constructors + b.0,
          b.1,
          b.2,
          b.3,
          behind-count j t.constructors (place_from (suc j) ts) b.0 ∙ b.4 ∙ ap (λ v. Some (record { ty = v; constructor = record { name = b.1; fields = b.2 } })) e,
          b.5,
        )

-- nothing yet, or the name of a constructor of type k begins so
abbrev pub BeginsMade : Table → ℕ → Kind → List ℕ → List ℕ → Type 0
BeginsMade table k q u r =
    (q ≡ Wrong) × ((u ≡ []) ⊎ ((c : ℕ) × (name : List ℕ) × (fs : List Field) × (y : List ℕ) × (place_of table c ≡ Some (record { ty = k; constructor = record { name = name; fields = fs } })) × (name ≡ u ++ y)))

pub goes-head : (w r : List ℕ) → head w ≡ head r → goes_on w ≡ goes_on r
goes-head [] [] h = refl
goes-head [] (b ∷ r) h = absurd (cc)
goes-head (c ∷ w) [] h = absurd (cc)
goes-head (c ∷ w) (b ∷ r) h = let e : c ≡ b = cc in ap is_name_byte e

module _ (N : Type 0) (table : Table) (named : N → IsNamed table) (k : ℕ) where
  made_outcome : (bs : List ℕ) (o : Outcome Made) → made_read 0 table k bs ≡ o → Found N (made_read 0 table k) (IsMade table k) (BeginsMade table k) bs o
  made_outcome bs (ok m r) e =
      let p = made-placed table k bs r m e in
      record { used = p.0; split = p.1; spelled = p.3; local = λ nn w h. made-is table (named nn) m.number k p.0 m.fields w p.3.placed (goes-head w r h ∙ p.2) }
  made_outcome bs (stop q i) e =
      let s = table-left N 0 0 table k bs q i e in
      let d : 0 + k ≡ k = omega arith in
      subst (λ z. Left N (made_read 0 table k) (BeginsMade table k) bs z i) (sym s.0) (left-at N (made_read 0 table k) (BeginsTable 0 table k) (BeginsMade table k) bs Wrong i (λ u r b. (refl, more d u b)) s.1)
    where
      more : 0 + k ≡ k → (u : List ℕ) → BeginsTable 0 table k Wrong u []
          → (u ≡ []) ⊎ ((c : ℕ) × (name : List ℕ) × (fs : List Field) × (y : List ℕ) × (place_of table c ≡ Some (record { ty = k; constructor = record { name = name; fields = fs } })) × (name ≡ u ++ y))
      more d u (inl z) = inl z
      more d u (inr b) = inr (b.0, b.1, b.2, b.3, b.4 ∙ ap (λ v. Some (record { ty = v; constructor = record { name = b.1; fields = b.2 } })) d, b.5)

  pub sound_made : Sound N (made_read 0 table k) (IsMade table k) (BeginsMade table k)
  sound_made bs = made_outcome bs (made_read 0 table k bs) refl
