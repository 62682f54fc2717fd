-- Counting the characters of a text, and finding one of them.
use Rattle.std.proofs.Common.{◌≡◌, ℕ, ◌≤◌, List, [], ◌∷◌, ◌++◌, length, Option, Some, None, refl, sym, ap, ◌∙◌, subst, slice_get, IsUtf8, chars}
use Rattle.std.specs.Str.Iter.{chars_rest, chars_steps}
use Rattle.std.specs.Iterator.{Yields, Drains, SkipsThenYields}
use Rattle.std.proofs.lemmas.Str.{chars_past_char, IsUtf8-past_char, chars-nil}
use Rattle.std.proofs.lemmas.List.{append-nil}
use Rattle.std.proofs.lemmas.Option.{slice_get_past}

-- the characters that were given, and those that are left
given : (s : _) (xs : List ℕ) (t : _) → IsUtf8 (chars_rest s) → Yields chars_steps s xs t → chars (chars_rest s) ≡ xs ++ chars (chars_rest t)
given s [] t u y = ap (λ z. chars (chars_rest z)) y
given s (x ∷ xs) t u y =
    chars_past_char (chars_rest s) (chars_rest y.0) x u y.1.0
    ∙ ap (λ l. x ∷ l) (given y.0 xs t (IsUtf8-past_char (chars_rest s) (chars_rest y.0) x u y.1.0) y.2)

no_more : (bs : List ℕ) → length bs ≡ 0 → chars bs ≡ []
no_more [] h = chars-nil
no_more (b ∷ bs) h = cc

pub counted : (s : _) (bs : List ℕ) (n : ℕ) → chars_rest s ≡ bs → IsUtf8 bs → (xs : List ℕ) → Drains chars_steps s xs → n ≡ length xs → n ≡ length (chars bs)
counted s bs n r u xs d e =
    let t = d.1.0 in
    let g = given s xs t (subst IsUtf8 (sym r) u) d.1.1 in
    let z = no_more (chars_rest t) d.1.2.0.0 in
    e ∙ ap length (sym (ap chars (sym r) ∙ (g ∙ (ap (λ l. xs ++ l) z ∙ append-nil xs))))

later : (xs ys : List ℕ) → slice_get (xs ++ ys) (length xs) ≡ slice_get ys 0
later [] ys = refl
later (x ∷ xs) ys = later xs ys

pub found : (s : _) (bs : List ℕ) (n : ℕ) (r : Option ℕ) (u : _) → chars_rest s ≡ bs → IsUtf8 bs → SkipsThenYields chars_steps s n r u → r ≡ slice_get (chars bs) n
found s bs n None u r h k =
    let t = k.1.0 in
    let g = given s k.0 t (subst IsUtf8 (sym r) h) k.1.1 in
    let z = no_more (chars_rest t) k.1.2.0.0 in
    let e : chars bs ≡ k.0 = ap chars (sym r) ∙ (g ∙ (ap (λ l. k.0 ++ l) z ∙ append-nil k.0)) in
    sym (slice_get_past (chars bs) n (subst (λ l. length l ≤ n) (sym e) k.2))
found s bs n (Some c) u r h k =
    let t = k.1.0 in
    let g = given s k.0 t (subst IsUtf8 (sym r) h) k.1.1 in
    let e : chars bs ≡ k.0 ++ chars (chars_rest t) = ap chars (sym r) ∙ g in
    k.1.2.2 ∙ (sym (later k.0 (chars (chars_rest t))) ∙ (ap (λ l. slice_get l (length k.0)) (sym e) ∙ ap (slice_get (chars bs)) k.2))
