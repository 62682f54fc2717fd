-- The lines of command bytes.
use Rattle.std.proofs.Common.{◌≡◌, ◌≢◌, ℕ, Bool, true, false, cond, eqb, eqb-true, List, [], ◌∷◌, ◌++◌, Option, refl, sym, subst, ◌∙◌, ap, append_assoc, append-nil, take, drop, get_or, length, ◌<◌, ◌+◌}
use Rattle.std.proofs.lemmas.List.{take_more, take-append-drop}
use Rattle.std.specs.List.{AllByRecursion}
use Rattle.txs_outside.specs.declared.sut.SutEntry.{SutEntry}
use Rattle.txs_words.specs.declared.model.Model.{Model}
use Rattle.txs_session.specs.Session.{State}
use Rattle.txs_drive.specs.Served.{Ending, onto_first, parts, last_part, lines_of_parts, command_lines}
use Rattle.txs_drive.specs.inner.CarriedOut.{HasNoFeed, joined, CarriedOut, LinesCarriedOut, BytesCarriedOut}
use Rattle.txs_drive.proofs.Courses.{carried_out_then, carried_out_nothing}

pub all-append : {X : Type 0} (P : X → Type 0) (xs ys : List X) → AllByRecursion P xs → AllByRecursion P ys → AllByRecursion P (xs ++ ys)
all-append P [] ys h k = k
all-append P (x ∷ xs) ys h k = (h.0, all-append P xs ys h.1 k)

pub no_feed_push : (p : List ℕ) (b : ℕ) → HasNoFeed p → b ≢ 10 → HasNoFeed (p ++ b ∷ [])
no_feed_push p b h ne = all-append (λ c. c ≢ 10) p (b ∷ []) h (ne, tt)

pub joined-append : (a b : List (List ℕ)) → joined (a ++ b) ≡ joined a ++ joined b
joined-append [] b = refl
joined-append (l ∷ a) b = ap (λ (q : List ℕ). l ++ 10 ∷ q) (joined-append a b) ∙ sym (append_assoc l (10 ∷ joined a) (joined b))

-- ---- the parts between line feeds

not_ten : (b : ℕ) (x : Bool) → eqb b 10 ≡ x → b ≢ 10 → eqb b 10 ≡ false
not_ten b true e ne = absurd (ne (eqb-true b 10 e))
not_ten b false e ne = e

parts_line : (line bs : List ℕ) → HasNoFeed line → parts (line ++ 10 ∷ bs) ≡ line ∷ parts bs
parts_line [] bs h = refl
parts_line (b ∷ line) bs h =
    ap (λ (x : Bool). cond x ([] ∷ parts (line ++ 10 ∷ bs)) (onto_first b (parts (line ++ 10 ∷ bs)))) (not_ten b (eqb b 10) refl h.0)
    ∙ ap (onto_first b) (parts_line line bs h.1)

parts_part : (rest : List ℕ) → HasNoFeed rest → parts rest ≡ rest ∷ []
parts_part [] h = refl
parts_part (b ∷ rest) h =
    ap (λ (x : Bool). cond x ([] ∷ parts rest) (onto_first b (parts rest))) (not_ten b (eqb b 10) refl h.0)
    ∙ ap (onto_first b) (parts_part rest h.1)

onto_some : (b : ℕ) (ls : List (List ℕ)) → (p : List ℕ) × (ps : List (List ℕ)) × (onto_first b ls ≡ p ∷ ps)
onto_some b [] = (b ∷ [], [], refl)
onto_some b (l ∷ ls) = (b ∷ l, ls, refl)

some_by : (x : Bool) (b : ℕ) (ls : List (List ℕ)) → (p : List ℕ) × (ps : List (List ℕ)) × (cond x ([] ∷ ls) (onto_first b ls) ≡ p ∷ ps)
some_by true b ls = ([], ls, refl)
some_by false b ls = onto_some b ls

parts_some : (bs : List ℕ) → (p : List ℕ) × (ps : List (List ℕ)) × (parts bs ≡ p ∷ ps)
parts_some [] = ([], [], refl)
parts_some (b ∷ bs) = some_by (eqb b 10) b (parts bs)

line_then : (e : Ending) (line : List ℕ) (ls : List (List ℕ)) (p : List ℕ) (ps : List (List ℕ)) → ls ≡ p ∷ ps → lines_of_parts e (line ∷ ls) ≡ line ∷ lines_of_parts e ls
line_then e line ls p ps h = rw h refl

-- the lines of finished lines and what follows them
pub commands_joined : (e : Ending) (lines : List (List ℕ)) (rest : List ℕ) → AllByRecursion HasNoFeed lines → command_lines (joined lines ++ rest) e ≡ lines ++ command_lines rest e
commands_joined e [] rest h = refl
commands_joined e (l ∷ lines) rest h =
    let some = parts_some (joined lines ++ rest) in
    ap (λ (bs : List ℕ). lines_of_parts e (parts bs)) (append_assoc l (10 ∷ joined lines) rest)
    ∙ (ap (lines_of_parts e) (parts_line l (joined lines ++ rest) h.0)
    ∙ (line_then e l (parts (joined lines ++ rest)) some.0 some.1 some.2
    ∙ ap (λ (q : List (List ℕ)). l ∷ q) (commands_joined e lines rest h.1)))

-- the lines of what is not finished
pub commands_part : (e : Ending) (rest : List ℕ) → HasNoFeed rest → command_lines rest e ≡ last_part e rest
commands_part e rest h = ap (lines_of_parts e) (parts_part rest h)

-- ---- what was taken

-- nothing but a part of a line
pub no_line_carried_out : (m : Model) (s : State) (k : Option (List ℕ)) (u : Option (List SutEntry)) (h : Option ℕ) (f : ℕ) (bytes : List ℕ) → LinesCarriedOut m s s k k u u h h f f bytes bytes false
no_line_carried_out m s k u h f bytes = record { lines = []; split = refl; each = tt; went = carried_out_nothing m s k u h f }

-- one line
pub one_line_carried_out : (m : Model) (s t : State) (k0 k1 : Option (List ℕ)) (u0 u1 : Option (List SutEntry)) (h0 h1 : Option ℕ) (f0 f1 : ℕ) (line rest : List ℕ) (b : ℕ) (q : Bool)
    → HasNoFeed line → b ≡ 10 → rest ≡ [] → CarriedOut m s t k0 k1 u0 u1 h0 h1 f0 f1 (line ∷ []) q → LinesCarriedOut m s t k0 k1 u0 u1 h0 h1 f0 f1 (line ++ b ∷ []) rest q
one_line_carried_out m s t k0 k1 u0 u1 h0 h1 f0 f1 line rest b q nf e n w = record {
  lines = line ∷ [];
  split = ap (λ (c : ℕ). line ++ c ∷ []) e ∙ (sym (append-nil (line ++ 10 ∷ [])) ∙ ap (λ (r : List ℕ). (line ++ 10 ∷ []) ++ r) (sym n));
  each = (nf, tt);
  went = w;
}

-- one stretch of bytes and then another
pub lines_carried_out_then : (m : Model) (s t v : State) (k0 k1 k2 : Option (List ℕ)) (u0 u1 u2 : Option (List SutEntry)) (h0 h1 h2 : Option ℕ) (f0 f1 f2 : ℕ) (a b r w : List ℕ) (q : Bool)
    → LinesCarriedOut m s t k0 k1 u0 u1 h0 h1 f0 f1 a r false → LinesCarriedOut m t v k1 k2 u1 u2 h1 h2 f1 f2 (r ++ b) w q → LinesCarriedOut m s v k0 k2 u0 u2 h0 h2 f0 f2 (a ++ b) w q
lines_carried_out_then m s t v k0 k1 k2 u0 u1 u2 h0 h1 h2 f0 f1 f2 a b r w q x y = record {
  lines = x.lines ++ y.lines;
  split = ap (λ (z : List ℕ). z ++ b) x.split ∙ (append_assoc (joined x.lines) r b ∙ (ap (λ (z : List ℕ). joined x.lines ++ z) y.split
      ∙ (sym (append_assoc (joined x.lines) (joined y.lines) w) ∙ ap (λ (z : List ℕ). z ++ w) (sym (joined-append x.lines y.lines)))));
  each = all-append HasNoFeed x.lines y.lines x.each y.each;
  went = carried_out_then m s t v k0 k1 k2 u0 u1 u2 h0 h1 h2 f0 f1 f2 x.lines y.lines q x.went y.went;
}

-- what follows stays after
pub lines_carried_out_before : (m : Model) (s t : State) (k0 k1 : Option (List ℕ)) (u0 u1 : Option (List SutEntry)) (h0 h1 : Option ℕ) (f0 f1 : ℕ) (a r d : List ℕ) (q : Bool)
    → LinesCarriedOut m s t k0 k1 u0 u1 h0 h1 f0 f1 a r q → LinesCarriedOut m s t k0 k1 u0 u1 h0 h1 f0 f1 (a ++ d) (r ++ d) q
lines_carried_out_before m s t k0 k1 u0 u1 h0 h1 f0 f1 a r d q x = record {
  lines = x.lines;
  split = ap (λ (z : List ℕ). z ++ d) x.split ∙ append_assoc (joined x.lines) r d;
  each = x.each;
  went = x.went;
}

-- one byte more of a read
pub take_step : (p got : List ℕ) (i : ℕ) → i < length got → (p ++ take i got) ++ get_or got i 0 ∷ [] ≡ p ++ take (i + 1) got
take_step p got i h = append_assoc p (take i got) (get_or got i 0 ∷ []) ∙ ap (λ (z : List ℕ). p ++ z) (sym (take_more got i 0 h))

-- all of a read
pub take_rest : (p got : List ℕ) (i : ℕ) → (p ++ take i got) ++ drop i got ≡ p ++ got
take_rest p got i = append_assoc p (take i got) (drop i got) ∙ ap (λ (z : List ℕ). p ++ z) (take-append-drop i got)

-- a read up to this byte, which was taken after those before it
pub read_on : (m : Model) (s t v : State) (k0 k1 k2 : Option (List ℕ)) (u0 u1 u2 : Option (List SutEntry)) (h0 h1 h2 : Option ℕ) (f0 f1 f2 : ℕ) (p got : List ℕ) (i : ℕ) (r w : List ℕ) (q : Bool)
    → i < length got → LinesCarriedOut m s t k0 k1 u0 u1 h0 h1 f0 f1 (p ++ take i got) r false → LinesCarriedOut m t v k1 k2 u1 u2 h1 h2 f1 f2 (r ++ get_or got i 0 ∷ []) w q
    → LinesCarriedOut m s v k0 k2 u0 u2 h0 h2 f0 f2 (p ++ take (i + 1) got) w q
read_on m s t v k0 k1 k2 u0 u1 u2 h0 h1 h2 f0 f1 f2 p got i r w q h a b =
    subst (λ (z : List ℕ). LinesCarriedOut m s v k0 k2 u0 u2 h0 h2 f0 f2 z w q) (take_step p got i h)
    (lines_carried_out_then m s t v k0 k1 k2 u0 u1 u2 h0 h1 h2 f0 f1 f2 (p ++ take i got) (get_or got i 0 ∷ []) r w q a b)

-- a read that ends the session with this byte
pub read_quits : (m : Model) (s t v : State) (k0 k1 k2 : Option (List ℕ)) (u0 u1 u2 : Option (List SutEntry)) (h0 h1 h2 : Option ℕ) (f0 f1 f2 : ℕ) (p got : List ℕ) (i : ℕ) (r w : List ℕ)
    → i < length got → LinesCarriedOut m s t k0 k1 u0 u1 h0 h1 f0 f1 (p ++ take i got) r false → LinesCarriedOut m t v k1 k2 u1 u2 h1 h2 f1 f2 (r ++ get_or got i 0 ∷ []) w true
    → BytesCarriedOut m s v k0 k2 u0 u2 h0 h2 f0 f2 (p ++ got) w true
read_quits m s t v k0 k1 k2 u0 u1 u2 h0 h1 h2 f0 f1 f2 p got i r w h a b = (
  w ++ drop (i + 1) got,
  subst (λ (z : List ℕ). LinesCarriedOut m s v k0 k2 u0 u2 h0 h2 f0 f2 z (w ++ drop (i + 1) got) true) (take_rest p got (i + 1))
      (lines_carried_out_before m s v k0 k2 u0 u2 h0 h2 f0 f2 (p ++ take (i + 1) got) w (drop (i + 1) got) true (read_on m s t v k0 k1 k2 u0 u1 u2 h0 h1 h2 f0 f1 f2 p got i r w true h a b)),
  λ e. cc,
)

-- no byte of a read
pub read_none : (m : Model) (s : State) (k : Option (List ℕ)) (u : Option (List SutEntry)) (h : Option ℕ) (f : ℕ) (p : List ℕ) → LinesCarriedOut m s s k k u u h h f f (p ++ []) p false
read_none m s k u h f p = subst (λ (z : List ℕ). LinesCarriedOut m s s k k u u h h f f z p false) (sym (append-nil p)) (no_line_carried_out m s k u h f p)
