-- What is told of a text that is read as a value.
use Rattle.std.proofs.Common.{◌≡◌, ◌≤◌, ◌<◌, ◌-◌, ◌↔◌, ℕ, min, Result, Ok, Err, List, [], ◌++◌, length, length-append, refl, sym, ap, subst, ◌∙◌, arith}
use Rattle.txs_values.specs.declared.reading.Kind.{Kind}
use Rattle.txs_values.specs.declared.reading.Kind.TheVariants.{Wrong, Past, Deep, Broken}
use Rattle.txs_values.specs.declared.refusal.ReadValueFault.{ReadValueFault}
use Rattle.txs_values.specs.declared.refusal.ReadValueFault.TheVariants.{NotText, WrongForm, Range, TooDeep, TooBig, NoMemory}
use Rattle.txs_values.specs.ReadingView.{Stopped, fault_of}
use Rattle.txs_values.specs.declared.reading.Stop.{Stop}
use Rattle.txs_values.specs.declared.reading.Stop.TheVariants.{At}
use Rattle.txs_values.specs.Reading.{Outcome, lone_read, ok, stop}
use Rattle.txs_values.specs.Value.{Ty, Value, Table, size, value_size_limit}
use Rattle.std.specs.Str.{IsUtf8}
use Rattle.txs_values.specs.Faults.{IsReadable, Reason, wrong_form, past_range, too_deep, IsCause, IsFirst, Refuses}
use Rattle.txs_values.proofs.spellings.Lone.{lone-left, lone-unbroken, lone-spelled, lone-same}
use Rattle.txs_values.proofs.spellings.Firsts.{reason_of, first-here, same-first, read-sound}

pub small-from : (v : Value) (n m : ℕ) → n ≡ min (size v) m → 16384 < m → n ≤ 16384 → size v ≤ value_size_limit
unfolding value_size_limit
small-from v n m e l h = omega (arith, e, l, h)

pub big-from : (v : Value) (n m : ℕ) → n ≡ min (size v) m → 16384 < n → value_size_limit < size v
unfolding value_size_limit
big-from v n m e h = omega (arith, e, h)

pub not-small : (v : Value) → value_size_limit < size v → size v ≤ value_size_limit → ⊥
not-small v h l = omega (arith, h, l)

pub stopped-at : {A : Type 0} (s : Stop) (k : Kind) (n : ℕ) (o : Outcome A) → s ≡ At k n → Stopped s o → o ≡ stop k n
stopped-at s k n o e h = subst (λ x. Stopped x o) e h

pub stop-within : (table : Table) (t : Ty) (bs : List ℕ) (k : Kind) (n : ℕ) → lone_read table t bs ≡ stop k n → n ≤ length bs
stop-within table t bs k n e =
    let l = lone-left table t bs k n e in
    let w : length bs ≡ length (l.used ++ l.rest) = ap length l.split in
    let c = l.count in
    let a = length-append l.used l.rest in
    omega (arith, w, c, a)

pub fault-text : (k : Kind) (n : ℕ) → (k ≡ Broken → ⊥) → fault_of k n ≡ NotText → ⊥
fault-text Wrong n h e = cc
fault-text Past n h e = cc
fault-text Deep n h e = cc
fault-text Broken n h e = h refl

pub err-same : {A : Type 0} {x y : ReadValueFault} → ◌≡◌ {A = Result A ReadValueFault} (Err x) (Err y) → x ≡ y
err-same e = cc

-- ---- each fault and its cause

module _ (table : Table) (t : Ty) (bs : List ℕ) (readable : IsReadable table t) (utf8 : IsUtf8 bs) where
  module _ (k : Kind) (n : ℕ) (stops : lone_read table t bs ≡ stop k n) where
    unbroken : k ≡ Broken → ⊥
    unbroken = lone-unbroken table t bs k n stops utf8

    first : IsFirst table t bs (reason_of k) (length bs - n)
    first = first-here table t readable bs k n stops unbroken

    told : Refuses table t bs (fault_of k (length bs - n))
    told = by k unbroken first
      where
        by : (z : Kind) → (z ≡ Broken → ⊥) → IsFirst table t bs (reason_of z) (length bs - n) → Refuses table t bs (fault_of z (length bs - n))
        by Wrong u h = (utf8, h)
        by Past u h = (utf8, h)
        by Deep u h = (utf8, h)
        by Broken u h = absurd (u refl)

    wrong-is : (z : Kind) (i m : ℕ) → (z ≡ Broken → ⊥) → (reason_of z ≡ wrong_form) × (i ≡ m) → fault_of z i ≡ WrongForm m
    wrong-is Wrong i m u h = ap WrongForm h.1
    wrong-is Past i m u h = let e = h.0 in absurd (cc)
    wrong-is Deep i m u h = let e = h.0 in absurd (cc)
    wrong-is Broken i m u h = absurd (u refl)

    past-is : (z : Kind) (i m : ℕ) → (z ≡ Broken → ⊥) → (reason_of z ≡ past_range) × (i ≡ m) → fault_of z i ≡ Range m
    past-is Wrong i m u h = let e = h.0 in absurd (cc)
    past-is Past i m u h = ap Range h.1
    past-is Deep i m u h = let e = h.0 in absurd (cc)
    past-is Broken i m u h = absurd (u refl)

    deep-is : (z : Kind) (i m : ℕ) → (z ≡ Broken → ⊥) → (reason_of z ≡ too_deep) × (i ≡ m) → fault_of z i ≡ TooDeep m
    deep-is Wrong i m u h = let e = h.0 in absurd (cc)
    deep-is Past i m u h = let e = h.0 in absurd (cc)
    deep-is Deep i m u h = ap TooDeep h.1
    deep-is Broken i m u h = absurd (u refl)

    only : (f : ReadValueFault) → (f ≡ NoMemory → ⊥) → Refuses table t bs f → fault_of k (length bs - n) ≡ f
    only NotText d h = absurd (h utf8)
    only (WrongForm m) d h = wrong-is k (length bs - n) m unbroken (same-first table t readable bs (reason_of k) wrong_form (length bs - n) m first h.1)
    only (Range m) d h = past-is k (length bs - n) m unbroken (same-first table t readable bs (reason_of k) past_range (length bs - n) m first h.1)
    only (TooDeep m) d h = deep-is k (length bs - n) m unbroken (same-first table t readable bs (reason_of k) too_deep (length bs - n) m first h.1)
    only TooBig d h = absurd (h.1.sound (reason_of k) (length bs - n) first.applies)
    only NoMemory d h = absurd (d refl)

    pub stop-refuses : {A : Type 0} (x : ReadValueFault) → x ≡ fault_of k (length bs - n) → (f : ReadValueFault) → (f ≡ NoMemory → ⊥) → (◌≡◌ {A = Result A ReadValueFault} (Err x) (Err f)) ↔ Refuses table t bs f
    stop-refuses x e f d = (λ h. subst (Refuses table t bs) (sym e ∙ err-same h) told, λ h. ap Err (e ∙ only f d h))

  module _ (v : Value) (reads : lone_read table t bs ≡ ok v []) where
    sound : (reason : Reason) (n : ℕ) → IsCause table t bs reason n → ⊥
    sound = read-sound table t readable bs v reads (lone-spelled table t bs v reads)

    no-fault : (f : ReadValueFault) → (f ≡ NoMemory → ⊥) → (f ≡ TooBig → ⊥) → Refuses table t bs f → ⊥
    no-fault NotText d b h = h utf8
    no-fault (WrongForm m) d b h = sound wrong_form m h.1.applies
    no-fault (Range m) d b h = sound past_range m h.1.applies
    no-fault (TooDeep m) d b h = sound too_deep m h.1.applies
    no-fault TooBig d b h = b refl
    no-fault NoMemory d b h = d refl

    is-big : value_size_limit < size v → Refuses table t bs TooBig
    is-big h = (utf8, record { value = v; spelled = lone-spelled table t bs v reads; sound = sound; big = h })

    pub big-refuses : {A : Type 0} → value_size_limit < size v → (f : ReadValueFault) → (f ≡ NoMemory → ⊥) → (◌≡◌ {A = Result A ReadValueFault} (Err TooBig) (Err f)) ↔ Refuses table t bs f
    big-refuses b NotText d = (λ h. absurd (cc), λ h. absurd (no-fault NotText d (λ e. cc) h))
    big-refuses b (WrongForm m) d = (λ h. absurd (cc), λ h. absurd (no-fault (WrongForm m) d (λ e. cc) h))
    big-refuses b (Range m) d = (λ h. absurd (cc), λ h. absurd (no-fault (Range m) d (λ e. cc) h))
    big-refuses b (TooDeep m) d = (λ h. absurd (cc), λ h. absurd (no-fault (TooDeep m) d (λ e. cc) h))
    big-refuses b TooBig d = (λ h. is-big b, λ h. refl)
    big-refuses b NoMemory d = absurd (d refl)

    small-same : size v ≤ value_size_limit → Refuses table t bs TooBig → ⊥
    small-same l h =
        let b = h.1.big in
        let e : size v ≡ size h.1.value = ap size (lone-same table t readable.named bs v h.1.value reads h.1.spelled) in
        omega (arith, l, b, e)

    pub ok-refuses : {A : Type 0} → size v ≤ value_size_limit → (x : A) (f : ReadValueFault) → (f ≡ NoMemory → ⊥) → (◌≡◌ {A = Result A ReadValueFault} (Ok x) (Err f)) ↔ Refuses table t bs f
    ok-refuses l x NotText d = (λ h. absurd (cc), λ h. absurd (no-fault NotText d (λ e. cc) h))
    ok-refuses l x (WrongForm m) d = (λ h. absurd (cc), λ h. absurd (no-fault (WrongForm m) d (λ e. cc) h))
    ok-refuses l x (Range m) d = (λ h. absurd (cc), λ h. absurd (no-fault (Range m) d (λ e. cc) h))
    ok-refuses l x (TooDeep m) d = (λ h. absurd (cc), λ h. absurd (no-fault (TooDeep m) d (λ e. cc) h))
    ok-refuses l x TooBig d = (λ h. absurd (cc), λ h. absurd (small-same l h))
    ok-refuses l x NoMemory d = absurd (d refl)
