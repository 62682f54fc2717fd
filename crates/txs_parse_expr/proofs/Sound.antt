-- What is read is spelled, and a bad or too deep token is the first that is.
use Rattle.std.proofs.Common.{◌≡◌, ℕ, ◌<◌, ◌≤◌, Bool, true, false, ◌⊎◌, inl, inr, [], ◌∷◌, ◌++◌, Option, Some, None, refl, sym, ap, subst, ◌∙◌, append_assoc}
use Rattle.txs_lexer.specs.declared.token.Token.{Token}
use Rattle.txs_syntax.specs.declared.ast.Op.{Op}
use Rattle.txs_syntax.specs.Grammar.{Tokens, Marked, tokens_of, Signs, sign_of}
use Rattle.txs_syntax.specs.Places.{Shallow}
use Rattle.txs_parse_expr.specs.Reader.{Outcome, ok, bad, deep, after, at_token, expect, on_sign}

abbrev pub head : Tokens → Option Token
head [] = None
head (c ∷ ts) = Some c

-- w is at its end, or begins as r does
abbrev pub Fits : Tokens → Tokens → Type 0
Fits w r = (w ≡ []) ⊎ (head w ≡ head r)

abbrev pub BeginsIn : {A : Type 0} → (A → Marked → Type 0) → Marked → Type 0
BeginsIn {A} S p = (a : A) × (more : Marked) × S a (p ++ more)

pub tokens_append : (u v : Marked) → tokens_of (u ++ v) ≡ tokens_of u ++ tokens_of v
tokens_append [] v = refl
tokens_append (m ∷ u) v = ap (λ ts. m.1 ∷ ts) (tokens_append u v)

pub tokens_more : (u v : Marked) (r : Tokens) → tokens_of (u ++ v) ++ r ≡ tokens_of u ++ (tokens_of v ++ r)
tokens_more u v r = ap (λ ts. ts ++ r) (tokens_append u v) ∙ append_assoc (tokens_of u) (tokens_of v) r

pub shallow_append : (limit : ℕ) (u v : Marked) → Shallow limit u → Shallow limit v → Shallow limit (u ++ v)
shallow_append limit [] v h g = g
shallow_append limit (m ∷ u) v h g = (h.0, shallow_append limit u v h.1 g)

module _ (limit : ℕ) where
  pub record Got {A : Type 0} (f : Tokens → Outcome A) (S : A → Marked → Type 0) (ts : Tokens) (a : A) (r : Tokens) : Type 0 where
    pub used : Marked
    pub split : ts ≡ tokens_of used ++ r
    pub spelled : S a used
    pub shallow : Shallow limit used
    pub local : (w : Tokens) → Fits w r → f (tokens_of used ++ w) ≡ ok a w

  pub record Failed {A : Type 0} (f : Tokens → Outcome A) (S : A → Marked → Type 0) (ts r : Tokens) : Type 0 where
    pub used : Marked
    pub split : ts ≡ tokens_of used ++ r
    pub begins : BeginsIn S used
    pub shallow : Shallow limit used
    pub local : (w : Tokens) → Fits w r → f (tokens_of used ++ w) ≡ bad w

  pub record Stuck {A : Type 0} (f : Tokens → Outcome A) (S : A → Marked → Type 0) (ts r : Tokens) : Type 0 where
    pub used : Marked
    pub depth : ℕ
    pub token : Token
    pub rest : Tokens
    pub split : ts ≡ tokens_of used ++ r
    pub next : r ≡ token ∷ rest
    pub many : limit ≤ depth
    pub begins : BeginsIn S (used ++ (depth, token) ∷ [])
    pub shallow : Shallow limit used
    pub local : (w : Tokens) → f (tokens_of used ++ (token ∷ w)) ≡ deep (token ∷ w)

  -- what the reader's outcome says of the tokens
  abbrev pub Found : {A : Type 0} → (Tokens → Outcome A) → (A → Marked → Type 0) → Tokens → Outcome A → Type 0
  Found f S ts (ok a r) = Got f S ts a r
  Found f S ts (bad r) = Failed f S ts r
  Found f S ts (deep r) = Stuck f S ts r

  abbrev pub Sound : {A : Type 0} → (Tokens → Outcome A) → (A → Marked → Type 0) → Type 0
  Sound f S = (ts : Tokens) → Found f S ts (f ts)

  module _ {A : Type 0} (f : Tokens → Outcome A) (S T : A → Marked → Type 0) (h : (a : A) (u : Marked) → S a u → T a u) where
    found_map : (ts : Tokens) (o : Outcome A) → Found f S ts o → Found f T ts o
    found_map ts (ok a r) x = record { used = x.used; split = x.split; spelled = h a x.used x.spelled; shallow = x.shallow; local = x.local }
    found_map ts (bad r) x = record { used = x.used; split = x.split; begins = (x.begins.0, x.begins.1, h _ _ x.begins.2); shallow = x.shallow; local = x.local }
    found_map ts (deep r) x = record {
      used = x.used;
      depth = x.depth;
      token = x.token;
      rest = x.rest;
      split = x.split;
      next = x.next;
      many = x.many;
      begins = (x.begins.0, x.begins.1, h _ _ x.begins.2);
      shallow = x.shallow;
      local = x.local;
    }

    pub sound_map : Sound f S → Sound f T
    sound_map s ts = found_map ts (f ts) (s ts)

  -- fits that are seen before more tokens
  fits_before : (u r w : Tokens) → Fits w r → Fits (u ++ w) (u ++ r)
  fits_before [] r w h = h
  fits_before (c ∷ u) r w h = inr refl

  fits_same : (u r w : Tokens) (c : Token) → r ≡ u ++ (c ∷ w) → (v : Tokens) → Fits (u ++ (c ∷ v)) r
  fits_same [] r w c e v = inr (ap head (sym e))
  fits_same (d ∷ u) r w c e v = inr (ap head (sym e))

  module _ {A B : Type 0} (f : Tokens → Outcome A) (g : A → Tokens → Outcome B) (S : A → Marked → Type 0) (T : B → Marked → Type 0) where
    abbrev both : Tokens → Outcome B
    both ts = after (f ts) g

    -- what the first reader used, before what the second sees
    both_at : (ts r : Tokens) (a : A) (x : Got f S ts a r) (v : Marked) (w : Tokens) → Fits (tokens_of v ++ w) r
        → both (tokens_of (x.used ++ v) ++ w) ≡ g a (tokens_of v ++ w)
    both_at ts r a x v w h =
        let p : f (tokens_of x.used ++ (tokens_of v ++ w)) ≡ ok a (tokens_of v ++ w) = x.local (tokens_of v ++ w) h in
        ap (λ us. after (f us) g) (tokens_more x.used v w) ∙ ap (λ o. after o g) p

    then_found : (ts r : Tokens) (a : A) (o : Outcome B) (x : Got f S ts a r) → Found (g a) (λ b v. T b (x.used ++ v)) r o → Found both T ts o
    then_found ts r a (ok b q) x y = record {
      used = x.used ++ y.used;
      split = x.split ∙ (ap (λ v. tokens_of x.used ++ v) y.split ∙ sym (tokens_more x.used y.used q));
      spelled = y.spelled;
      shallow = shallow_append limit x.used y.used x.shallow y.shallow;
      local = λ w h.
          both_at ts r a x y.used w (subst (Fits (tokens_of y.used ++ w)) (sym y.split) (fits_before (tokens_of y.used) q w h)) ∙ y.local w h;
    }
    then_found ts r a (bad q) x y = record {
      used = x.used ++ y.used;
      split = x.split ∙ (ap (λ v. tokens_of x.used ++ v) y.split ∙ sym (tokens_more x.used y.used q));
      begins = (y.begins.0, y.begins.1, subst (T y.begins.0) (sym (append_assoc x.used y.used y.begins.1)) y.begins.2);
      shallow = shallow_append limit x.used y.used x.shallow y.shallow;
      local = λ w h.
          both_at ts r a x y.used w (subst (Fits (tokens_of y.used ++ w)) (sym y.split) (fits_before (tokens_of y.used) q w h)) ∙ y.local w h;
    }
    then_found ts r a (deep q) x y = record {
      used = x.used ++ y.used;
      depth = y.depth;
      token = y.token;
      rest = y.rest;
      split = x.split ∙ (ap (λ v. tokens_of x.used ++ v) y.split ∙ sym (tokens_more x.used y.used q));
      next = y.next;
      many = y.many;
      begins = (y.begins.0, y.begins.1, subst (T y.begins.0) (simp append_assoc) y.begins.2);
      shallow = shallow_append limit x.used y.used x.shallow y.shallow;
      local = λ w.
          both_at ts r a x y.used (y.token ∷ w) (fits_same (tokens_of y.used) r y.rest y.token (y.split ∙ ap (λ v. tokens_of y.used ++ v) y.next) w) ∙ y.local w;
    }

    pub after_found : (ts : Tokens) (o : Outcome A) → Found f S ts o
        → ((a : A) (u : Marked) (r : Tokens) → ts ≡ tokens_of u ++ r → S a u → Shallow limit u → Found (g a) (λ b v. T b (u ++ v)) r (g a r))
        → ((a : A) (u : Marked) → S a u → BeginsIn T u) → Found both T ts (after o g)
    after_found ts (ok a r) x second completes = then_found ts r a (g a r) x (second a x.used r x.split x.spelled x.shallow)
    after_found ts (bad r) x second completes =
        let b = completes x.begins.0 (x.used ++ x.begins.1) x.begins.2 in
        record {
          used = x.used;
          split = x.split;
          begins = (b.0, x.begins.1 ++ b.1, subst (T b.0) (append_assoc x.used x.begins.1 b.1) b.2);
          shallow = x.shallow;
          local = λ w h. ap (λ o. after o g) (x.local w h);
        }
    after_found ts (deep r) x second completes =
        let b = completes x.begins.0 ((x.used ++ (x.depth, x.token) ∷ []) ++ x.begins.1) x.begins.2 in
        record {
          used = x.used;
          depth = x.depth;
          token = x.token;
          rest = x.rest;
          split = x.split;
          next = x.next;
          many = x.many;
          begins = (b.0, x.begins.1 ++ b.1, subst (T b.0) (append_assoc (x.used ++ (x.depth, x.token) ∷ []) x.begins.1 b.1) b.2);
          shallow = x.shallow;
          local = λ w. ap (λ o. after o g) (x.local w);
        }

    pub sound_after : Sound f S → ((a : A) (u : Marked) → S a u → Sound (g a) (λ b v. T b (u ++ v)))
        → ((a : A) (u : Marked) → S a u → BeginsIn T u) → Sound both T
    sound_after first second completes ts = after_found ts (f ts) (first ts) (λ a u r e s h. second a u s r) completes

    pub sound_within : Sound f S → ((a : A) (u : Marked) → S a u → Shallow limit u → Sound (g a) (λ b v. T b (u ++ v)))
        → ((a : A) (u : Marked) → S a u → BeginsIn T u) → Sound both T
    sound_within first second completes ts = after_found ts (f ts) (first ts) (λ a u r e s h. second a u s h r) completes

  pub sound_ok : {A : Type 0} (a : A) (S : A → Marked → Type 0) → S a [] → Sound (ok a) S
  sound_ok a S s ts = record { used = []; split = refl; spelled = s; shallow = tt; local = λ w h. refl }

  pub sound_bad : {A : Type 0} (S : A → Marked → Type 0) → BeginsIn S [] → Sound bad S
  sound_bad S s ts = record { used = []; split = refl; begins = s; shallow = tt; local = λ w h. refl }

  -- ---- one token taken

  module _ {A : Type 0} (d : ℕ) (c : Token) (f go : Tokens → Outcome A) (S : A → Marked → Type 0) (l : d < limit) (q : (w : Tokens) → f (c ∷ w) ≡ go w) where
    taken_found : (ts : Tokens) (o : Outcome A) → Found go (λ a v. S a ((d, c) ∷ v)) ts o → Found f S (c ∷ ts) o
    taken_found ts (ok a r) x = record {
      used = (d, c) ∷ x.used;
      split = ap (λ v. c ∷ v) x.split;
      spelled = x.spelled;
      shallow = (l, x.shallow);
      local = λ w h. q (tokens_of x.used ++ w) ∙ x.local w h;
    }
    taken_found ts (bad r) x = record {
      used = (d, c) ∷ x.used;
      split = ap (λ v. c ∷ v) x.split;
      begins = x.begins;
      shallow = (l, x.shallow);
      local = λ w h. q (tokens_of x.used ++ w) ∙ x.local w h;
    }
    taken_found ts (deep r) x = record {
      used = (d, c) ∷ x.used;
      depth = x.depth;
      token = x.token;
      rest = x.rest;
      split = ap (λ v. c ∷ v) x.split;
      next = x.next;
      many = x.many;
      begins = x.begins;
      shallow = (l, x.shallow);
      local = λ w. q (tokens_of x.used ++ (x.token ∷ w)) ∙ x.local w;
    }

    pub sound_taken : (ts : Tokens) → Found go (λ a v. S a ((d, c) ∷ v)) ts (go ts) → Found f S (c ∷ ts) (f (c ∷ ts))
    sound_taken ts x = subst (Found f S (c ∷ ts)) (sym (q ts)) (taken_found ts (go ts) x)

  -- ---- a test of the next token, which another reader then reads

  -- the other reader stands for f at each list that begins as ts does
  module _ {A : Type 0} (f stop : Tokens → Outcome A) (S : A → Marked → Type 0) (ts : Tokens)
      (q : (w : Tokens) → Fits w ts → f w ≡ stop w) where
    fits_on : (u r w : Tokens) → ts ≡ u ++ r → Fits w r → Fits (u ++ w) ts
    fits_on u r w e h = subst (Fits (u ++ w)) (sym e) (fits_before u r w h)

    stop_found : (o : Outcome A) → Found stop S ts o → Found f S ts o
    stop_found (ok a r) x = record {
      used = x.used;
      split = x.split;
      spelled = x.spelled;
      shallow = x.shallow;
      local = λ w h. q (tokens_of x.used ++ w) (fits_on (tokens_of x.used) r w x.split h) ∙ x.local w h;
    }
    stop_found (bad r) x = record {
      used = x.used;
      split = x.split;
      begins = x.begins;
      shallow = x.shallow;
      local = λ w h. q (tokens_of x.used ++ w) (fits_on (tokens_of x.used) r w x.split h) ∙ x.local w h;
    }
    stop_found (deep r) x = record {
      used = x.used;
      depth = x.depth;
      token = x.token;
      rest = x.rest;
      split = x.split;
      next = x.next;
      many = x.many;
      begins = x.begins;
      shallow = x.shallow;
      local = λ w.
          q (tokens_of x.used ++ (x.token ∷ w)) (fits_same (tokens_of x.used) ts x.rest x.token (x.split ∙ ap (λ v. tokens_of x.used ++ v) x.next) w) ∙ x.local w;
    }

    pub sound_same : Found stop S ts (stop ts) → Found f S ts (f ts)
    sound_same x = subst (Found f S ts) (sym (q ts (inr refl))) (stop_found (stop ts) x)

  token_false : {A : Type 0} (p : Token → Bool) (go : Token → Tokens → Outcome A) (stop : Tokens → Outcome A) (c : Token) (ts : Tokens) → p c ≡ false
      → (w : Tokens) → Fits w (c ∷ ts) → at_token p w go (stop w) ≡ stop w
  token_false p go stop c ts e [] h = refl
  token_false p go stop c ts e (d ∷ w) (inl h) = cc
  token_false p go stop c ts e (d ∷ w) (inr h) = let k : d ≡ c = cc in let g : p d ≡ false = ap p k ∙ e in rw g refl

  token_none : {A : Type 0} (p : Token → Bool) (go : Token → Tokens → Outcome A) (stop : Tokens → Outcome A) (w : Tokens) → Fits w []
      → at_token p w go (stop w) ≡ stop w
  token_none p go stop [] h = refl
  token_none p go stop (d ∷ w) (inl h) = cc
  token_none p go stop (d ∷ w) (inr h) = cc

  module _ {A : Type 0} (d : ℕ) (p : Token → Bool) (go : Token → Tokens → Outcome A) (stop : Tokens → Outcome A) (S : A → Marked → Type 0) (l : d < limit)
      (stopped : Sound stop S) where
    on_by : (c : Token) (ts : Tokens) (t : Bool) → p c ≡ t → (p c ≡ true → Found (go c) (λ a v. S a ((d, c) ∷ v)) ts (go c ts))
        → Found (λ w. at_token p w go (stop w)) S (c ∷ ts) (at_token p (c ∷ ts) go (stop (c ∷ ts)))
    on_by c ts true e h = sound_taken d c (λ w. at_token p w go (stop w)) (go c) S l (λ w. rw e refl) ts (h e)
    on_by c ts false e h = sound_same (λ w. at_token p w go (stop w)) stop S (c ∷ ts) (token_false p go stop c ts e) (stopped (c ∷ ts))

    pub found_on : (ts : Tokens) → ((c : Token) (v : Tokens) → ts ≡ c ∷ v → p c ≡ true → Found (go c) (λ a w. S a ((d, c) ∷ w)) v (go c v))
        → Found (λ w. at_token p w go (stop w)) S ts (at_token p ts go (stop ts))
    found_on [] h = sound_same (λ w. at_token p w go (stop w)) stop S [] (token_none p go stop) (stopped [])
    found_on (c ∷ ts) h = on_by c ts (p c) refl (h c ts refl)

    pub sound_on : ((c : Token) → p c ≡ true → Sound (go c) (λ a v. S a ((d, c) ∷ v))) → Sound (λ w. at_token p w go (stop w)) S
    sound_on taken ts = found_on ts (λ c v e q. taken c q v)

  -- a token that has to come
  pub sound_expect : {A : Type 0} (d : ℕ) (p : Token → Bool) (go : Tokens → Outcome A) (S : A → Marked → Type 0) → d < limit
      → ((c : Token) → p c ≡ true → Sound go (λ a v. S a ((d, c) ∷ v))) → BeginsIn S [] → Sound (λ w. expect p w go) S
  sound_expect d p go S l taken begins = sound_on d p (λ c. go) bad S l (sound_bad S begins) taken

  sign_none : {A : Type 0} (signs : Signs) (go : Op → Tokens → Outcome A) (stop : Tokens → Outcome A) (c : Token) (ts : Tokens) → sign_of signs c ≡ None
      → (w : Tokens) → Fits w (c ∷ ts) → on_sign signs w go (stop w) ≡ stop w
  sign_none signs go stop c ts e [] h = refl
  sign_none signs go stop c ts e (d ∷ w) (inl h) = cc
  sign_none signs go stop c ts e (d ∷ w) (inr h) = let k : d ≡ c = cc in let g : sign_of signs d ≡ None = ap (sign_of signs) k ∙ e in rw g refl

  sign_end : {A : Type 0} (signs : Signs) (go : Op → Tokens → Outcome A) (stop : Tokens → Outcome A) (w : Tokens) → Fits w [] → on_sign signs w go (stop w) ≡ stop w
  sign_end signs go stop [] h = refl
  sign_end signs go stop (d ∷ w) (inl h) = cc
  sign_end signs go stop (d ∷ w) (inr h) = cc

  module _ {A : Type 0} (d : ℕ) (signs : Signs) (go : Op → Tokens → Outcome A) (stop : Tokens → Outcome A) (S : A → Marked → Type 0) (l : d < limit)
      (taken : (c : Token) (o : Op) → sign_of signs c ≡ Some o → Sound (go o) (λ a v. S a ((d, c) ∷ v))) (stopped : Sound stop S) where
    sign_by : (c : Token) (ts : Tokens) (t : Option Op) → sign_of signs c ≡ t → Found (λ w. on_sign signs w go (stop w)) S (c ∷ ts) (on_sign signs (c ∷ ts) go (stop (c ∷ ts)))
    sign_by c ts (Some o) e = sound_taken d c (λ w. on_sign signs w go (stop w)) (go o) S l (λ w. rw e refl) ts (taken c o e ts)
    sign_by c ts None e = sound_same (λ w. on_sign signs w go (stop w)) stop S (c ∷ ts) (sign_none signs go stop c ts e) (stopped (c ∷ ts))

    pub sound_sign : Sound (λ w. on_sign signs w go (stop w)) S
    sound_sign [] = sound_same (λ w. on_sign signs w go (stop w)) stop S [] (sign_end signs go stop) (stopped [])
    sound_sign (c ∷ ts) = sign_by c ts (sign_of signs c) refl
