-- A term stays well typed when expressions of their types are put for its slots, or channels of the same types for its channels.
use Rattle.std.proofs.Common.{◌≡◌, ◌<◌, ℕ, zero, suc, ◌+◌, List, [], ◌∷◌, ◌++◌, map, length, refl, sym, ap, ◌∙◌, subst, arith, false}
use Rattle.txs_values.specs.Value.{Ty, Value, Table, HaveTypes}
use Rattle.txs_terms.specs.Expr.{Expr, Puts, put_all, filled}
use Rattle.txs_terms.specs.Action.{Channels, Scope, types_on, types_over, is_empty}
use Rattle.txs_terms.specs.Term.{Position, give, take, Offer, Term, stop, exits, prefix, step, guard, choice, par, enable, disable, interrupt, hide, call, bind, machine, hit, miss, put_position, put_offer, put_term, fill, channel_at, offer_at, with_channels, instance}
use Rattle.txs_terms.specs.Rules.{offered}
use Rattle.txs_terms.specs.Typed.{Signatures, OfEach, AreGuards, FitPositions, FitOffers, OfBindings, FitChannels, AllBelow, OfTerm}
use Rattle.txs_laws.proofs.typing.Channels.{union_below}
use Rattle.txs_laws.proofs.rules.Channels.{ascending_order}
use Rattle.txs_laws.proofs.typing.Sides.{sides_map}
use Rattle.txs_terms.proofs.typing.Lists.{joined_again, joined_none}
use Rattle.txs_terms.proofs.typing.Putting.{Suits, put_typed, filled_suits}

pub offered_put : (f : Puts) (os : List Offer) → offered (map (put_offer f) os) ≡ offered os
offered_put f [] = refl
offered_put f (o ∷ os) = ap (λ l. o.channel ∷ l) (offered_put f os)

module _ (table : Table) (signatures : Signatures) where
  -- what is put for a slot has the slot's type, with any slots after
  abbrev pub Carries : Puts → List Ty → List Ty → Type 0
  Carries f slots others = (later : List Ty) → Suits table signatures f (slots ++ later) (others ++ later)

  pub carries_more : (f : Puts) (slots others ts : List Ty) → Carries f slots others → Carries f (slots ++ ts) (others ++ ts)
  carries_more f slots others ts c later =
      subst (λ l. Suits table signatures f l ((others ++ ts) ++ later)) (sym (joined_again slots ts later))
      (subst (λ l. Suits table signatures f (slots ++ (ts ++ later)) l) (sym (joined_again others ts later)) (c (ts ++ later)))

  pub carries_here : (f : Puts) (slots others : List Ty) → Carries f slots others → Suits table signatures f slots others
  carries_here f slots others c =
      subst (λ l. Suits table signatures f l others) (joined_none slots) (subst (λ l. Suits table signatures f (slots ++ []) l) (joined_none others) (c []))

  put_each_fits : (f : Puts) (slots others : List Ty) → Suits table signatures f slots others → (es : List Expr) (ts : List Ty)
      → OfEach table signatures slots es ts → OfEach table signatures others (put_all f es) ts
  put_each_fits f slots others c [] [] h = tt
  put_each_fits f slots others c [] (t ∷ ts) h = absurd h
  put_each_fits f slots others c (e ∷ es) [] h = absurd h
  put_each_fits f slots others c (e ∷ es) (t ∷ ts) h = (put_typed table signatures h.0 f others c, put_each_fits f slots others c es ts h.1)

  pub put_guards : (f : Puts) (slots others : List Ty) → Suits table signatures f slots others → (gs : List Expr)
      → AreGuards table signatures slots gs → AreGuards table signatures others (put_all f gs)
  put_guards f slots others c [] h = tt
  put_guards f slots others c (g ∷ gs) h = (put_typed table signatures h.0 f others c, put_guards f slots others c gs h.1)

  put_positions_fit : (f : Puts) (slots others : List Ty) → Suits table signatures f slots others → (ps : List Position) (ts : List Ty)
      → FitPositions table signatures slots ps ts → FitPositions table signatures others (map (put_position f) ps) ts
  put_positions_fit f slots others c [] [] h = tt
  put_positions_fit f slots others c [] (t ∷ ts) h = absurd h
  put_positions_fit f slots others c (give e ∷ ps) [] h = absurd h
  put_positions_fit f slots others c (take x ∷ ps) [] h = absurd h
  put_positions_fit f slots others c (give e ∷ ps) (t ∷ ts) h = (put_typed table signatures h.0 f others c, put_positions_fit f slots others c ps ts h.1)
  put_positions_fit f slots others c (take x ∷ ps) (t ∷ ts) h = put_positions_fit f slots others c ps ts h

  put_offers_fit : (f : Puts) (scope : Scope) (slots others : List Ty) → Suits table signatures f slots others → (os : List Offer)
      → FitOffers table signatures scope slots os → FitOffers table signatures scope others (map (put_offer f) os)
  put_offers_fit f scope slots others c [] h = tt
  put_offers_fit f scope slots others c (o ∷ os) h =
      (h.0, put_positions_fit f slots others c o.positions (types_on scope o.channel) h.1, put_offers_fit f scope slots others c os h.2)

  put_bindings_fit : (f : Puts) (slots others : List Ty) → Carries f slots others → (es : List Expr) (ts : List Ty)
      → OfBindings table signatures slots es ts → OfBindings table signatures others (put_all f es) ts
  put_bindings_fit f slots others c [] [] h = tt
  put_bindings_fit f slots others c [] (t ∷ ts) h = absurd h
  put_bindings_fit f slots others c (e ∷ es) [] h = absurd h
  put_bindings_fit f slots others c (e ∷ es) (t ∷ ts) h = (
    put_typed table signatures h.0 f others (carries_here f slots others c),
    put_bindings_fit f (slots ++ t ∷ []) (others ++ t ∷ []) (carries_more f slots others (t ∷ []) c) es ts h.1,
  )

  pub put_term_typed : (t : Term) (f : Puts) (scope : Scope) (slots others exit_types : List Ty) → Carries f slots others
      → OfTerm table signatures scope slots exit_types t → OfTerm table signatures scope others exit_types (put_term f t)
  put_term_typed stop f scope slots others exit_types c h = tt
  put_term_typed (exits es) f scope slots others exit_types c h = put_each_fits f slots others (carries_here f slots others c) es exit_types h
  put_term_typed (prefix os gs t) f scope slots others exit_types c h =
      let ts : List Ty = types_over scope (offered os) in
      let more : Carries f (slots ++ ts) (others ++ ts) = carries_more f slots others ts c in
      let same : types_over scope (offered os) ≡ types_over scope (offered (map (put_offer f) os)) = ap (types_over scope) (sym (offered_put f os)) in (
        put_offers_fit f scope slots others (carries_here f slots others c) os h.0,
        subst (λ l. AreGuards table signatures (others ++ l) (put_all f gs)) same
            (put_guards f (slots ++ ts) (others ++ ts) (carries_here f (slots ++ ts) (others ++ ts) more) gs h.1),
        subst (λ l. OfTerm table signatures scope (others ++ l) exit_types (put_term f t)) same
            (put_term_typed t f scope (slots ++ ts) (others ++ ts) exit_types more h.2),
        ap is_empty (offered_put f os) ∙ h.3,
      )
  put_term_typed (step gs t) f scope slots others exit_types c h =
      (put_guards f slots others (carries_here f slots others c) gs h.0, put_term_typed t f scope slots others exit_types c h.1)
  put_term_typed (guard gs t) f scope slots others exit_types c h =
      (put_guards f slots others (carries_here f slots others c) gs h.0, put_term_typed t f scope slots others exit_types c h.1)
  put_term_typed (choice a b) f scope slots others exit_types c h =
      (put_term_typed a f scope slots others exit_types c h.0, put_term_typed b f scope slots others exit_types c h.1)
  put_term_typed (par gates a b) f scope slots others exit_types c h = (
    h.0,
    h.1,
    sides_map (λ ts. OfTerm table signatures scope slots ts a) (λ ts. OfTerm table signatures scope slots ts b)
        (λ ts. OfTerm table signatures scope others ts (put_term f a)) (λ ts. OfTerm table signatures scope others ts (put_term f b))
        (λ ts k. put_term_typed a f scope slots others ts c k) (λ ts k. put_term_typed b f scope slots others ts c k) exit_types h.2,
  )
  put_term_typed (enable a xs b) f scope slots others exit_types c h = (
    h.0,
    h.1,
    put_term_typed a f scope slots others h.0 c h.2,
    put_term_typed b f scope (slots ++ h.0) (others ++ h.0) exit_types (carries_more f slots others h.0 c) h.3,
  )
  put_term_typed (disable a b) f scope slots others exit_types c h =
      (put_term_typed a f scope slots others exit_types c h.0, put_term_typed b f scope slots others exit_types c h.1)
  put_term_typed (interrupt a b) f scope slots others exit_types c h =
      (put_term_typed a f scope slots others exit_types c h.0, put_term_typed b f scope slots others [] c h.1)
  put_term_typed (hide hs t) f scope slots others exit_types c h = (h.0, put_term_typed t f (scope ++ hs) slots others exit_types c h.1)
  put_term_typed (call p cs es) f scope slots others exit_types c h =
      (h.0, h.1, h.2, put_each_fits f slots others (carries_here f slots others c) es h.0.takes h.3, h.4)
  put_term_typed (bind xs es t) f scope slots others exit_types c h = (
    h.0,
    h.1,
    put_bindings_fit f slots others c es h.0 h.2,
    put_term_typed t f scope (slots ++ h.0) (others ++ h.0) exit_types (carries_more f slots others h.0 c) h.3,
  )
  put_term_typed (machine k cs es q) f scope slots others exit_types c h =
      (h.0, h.1, h.2, put_each_fits f slots others (carries_here f slots others c) es h.0.holds h.3, h.4)
  put_term_typed hit f scope slots others exit_types c h = tt
  put_term_typed miss f scope slots others exit_types c h = tt

  pub filled_carries : (vs : List Value) (slots : List Ty) → HaveTypes table vs slots → Carries (filled vs) slots []
  filled_carries vs slots h later = filled_suits table signatures vs slots later h

  pub fill_typed : (scope : Scope) (slots exit_types : List Ty) (vs : List Value) (t : Term)
      → HaveTypes table vs slots → OfTerm table signatures scope slots exit_types t → OfTerm table signatures scope [] exit_types (fill vs t)
  fill_typed scope slots exit_types vs t h k = put_term_typed t (filled vs) scope slots [] exit_types (filled_carries vs slots h) k

-- ---- channels

-- the channels have the types of those that they stand for, with any channels after
abbrev pub Leads : (ℕ → ℕ) → Scope → Scope → Type 0
Leads g formals scope = (later : Scope) (c : ℕ) → c < length (formals ++ later)
    → (g c < length (scope ++ later)) × (types_on (scope ++ later) (g c) ≡ types_on (formals ++ later) c)

abbrev LeadsHere : (ℕ → ℕ) → Scope → Scope → Type 0
LeadsHere g formals scope = (c : ℕ) → c < length formals → (g c < length scope) × (types_on scope (g c) ≡ types_on formals c)

leads_more : (g : ℕ → ℕ) (formals scope hs : Scope) → Leads g formals scope → Leads g (formals ++ hs) (scope ++ hs)
leads_more g formals scope hs l later =
    subst (λ x. LeadsHere g x ((scope ++ hs) ++ later)) (sym (joined_again formals hs later))
    (subst (λ x. LeadsHere g (formals ++ (hs ++ later)) x) (sym (joined_again scope hs later)) (l (hs ++ later)))

leads_here : (g : ℕ → ℕ) (formals scope : Scope) → Leads g formals scope → LeadsHere g formals scope
leads_here g formals scope l =
    subst (λ x. LeadsHere g x scope) (joined_none formals) (subst (λ x. LeadsHere g (formals ++ []) x) (joined_none scope) (l []))

below_led : (g : ℕ → ℕ) (formals scope : Scope) → LeadsHere g formals scope → (cs : Channels) → AllBelow (length formals) cs → AllBelow (length scope) (map g cs)
below_led g formals scope l [] h = tt
below_led g formals scope l (c ∷ cs) h = ((l c h.0).0, below_led g formals scope l cs h.1)

channels_led : (g : ℕ → ℕ) (formals scope : Scope) → LeadsHere g formals scope → (cs : Channels) (others : Scope) → FitChannels formals cs others → FitChannels scope (map g cs) others
channels_led g formals scope l [] [] h = tt
channels_led g formals scope l [] (ts ∷ others) h = absurd h
channels_led g formals scope l (c ∷ cs) [] h = absurd h
channels_led g formals scope l (c ∷ cs) (ts ∷ others) h = let p = l c h.0 in (p.0, p.1 ∙ h.1, channels_led g formals scope l cs others h.2)

module _ (table : Table) (signatures : Signatures) where
  offers_led : (g : ℕ → ℕ) (formals scope : Scope) → LeadsHere g formals scope → (slots : List Ty) (os : List Offer)
      → FitOffers table signatures formals slots os → FitOffers table signatures scope slots (map (offer_at g) os)
  offers_led g formals scope l slots [] h = tt
  offers_led g formals scope l slots (o ∷ os) h =
      let p = l o.channel h.0 in
      (p.0, subst (FitPositions table signatures slots o.positions) (sym p.1) h.1, offers_led g formals scope l slots os h.2)

  types_led : (g : ℕ → ℕ) (formals scope : Scope) → LeadsHere g formals scope → (slots : List Ty) (os : List Offer)
      → FitOffers table signatures formals slots os → types_over formals (offered os) ≡ types_over scope (offered (map (offer_at g) os))
  types_led g formals scope l slots [] h = refl
  types_led g formals scope l slots (o ∷ os) h =
      let p = sym (l o.channel h.0).1 in let q = types_led g formals scope l slots os h.2 in
      ap (λ x. x ++ types_over formals (offered os)) p ∙ ap (λ x. types_on scope (g o.channel) ++ x) q

  still_some : (g : ℕ → ℕ) (os : List Offer) → is_empty (offered os) ≡ false → is_empty (offered (map (offer_at g) os)) ≡ false
  still_some g [] e = e
  still_some g (o ∷ os) e = refl

  pub channels_typed : (t : Term) (g : ℕ → ℕ) (formals scope : Scope) (slots exit_types : List Ty) → Leads g formals scope
      → OfTerm table signatures formals slots exit_types t → OfTerm table signatures scope slots exit_types (with_channels g t)
  channels_typed stop g formals scope slots exit_types l h = tt
  channels_typed (exits es) g formals scope slots exit_types l h = h
  channels_typed (prefix os gs t) g formals scope slots exit_types l h =
      let here : LeadsHere g formals scope = leads_here g formals scope l in
      let same : types_over formals (offered os) ≡ types_over scope (offered (map (offer_at g) os)) = types_led g formals scope here slots os h.0 in (
        offers_led g formals scope here slots os h.0,
        subst (λ x. AreGuards table signatures (slots ++ x) gs) same h.1,
        subst (λ x. OfTerm table signatures scope (slots ++ x) exit_types (with_channels g t)) same
            (channels_typed t g formals scope (slots ++ types_over formals (offered os)) exit_types l h.2),
        still_some g os h.3,
      )
  channels_typed (step gs t) g formals scope slots exit_types l h = (h.0, channels_typed t g formals scope slots exit_types l h.1)
  channels_typed (guard gs t) g formals scope slots exit_types l h = (h.0, channels_typed t g formals scope slots exit_types l h.1)
  channels_typed (choice a b) g formals scope slots exit_types l h =
      (channels_typed a g formals scope slots exit_types l h.0, channels_typed b g formals scope slots exit_types l h.1)
  channels_typed (par gates a b) g formals scope slots exit_types l h = (
    union_below (length scope) (map g gates) [] (below_led g formals scope (leads_here g formals scope l) gates h.0) tt,
    ascending_order (map g gates),
    sides_map (λ ts. OfTerm table signatures formals slots ts a) (λ ts. OfTerm table signatures formals slots ts b)
        (λ ts. OfTerm table signatures scope slots ts (with_channels g a)) (λ ts. OfTerm table signatures scope slots ts (with_channels g b))
        (λ ts k. channels_typed a g formals scope slots ts l k) (λ ts k. channels_typed b g formals scope slots ts l k) exit_types h.2,
  )
  channels_typed (enable a xs b) g formals scope slots exit_types l h =
      (h.0, h.1, channels_typed a g formals scope slots h.0 l h.2, channels_typed b g formals scope (slots ++ h.0) exit_types l h.3)
  channels_typed (disable a b) g formals scope slots exit_types l h =
      (channels_typed a g formals scope slots exit_types l h.0, channels_typed b g formals scope slots exit_types l h.1)
  channels_typed (interrupt a b) g formals scope slots exit_types l h =
      (channels_typed a g formals scope slots exit_types l h.0, channels_typed b g formals scope slots [] l h.1)
  channels_typed (hide hs t) g formals scope slots exit_types l h =
      (h.0, channels_typed t g (formals ++ hs) (scope ++ hs) slots exit_types (leads_more g formals scope hs l) h.1)
  channels_typed (call p cs es) g formals scope slots exit_types l h =
      (h.0, h.1, channels_led g formals scope (leads_here g formals scope l) cs h.0.formals h.2, h.3, h.4)
  channels_typed (bind xs es t) g formals scope slots exit_types l h =
      (h.0, h.1, h.2, channels_typed t g formals scope (slots ++ h.0) exit_types l h.3)
  channels_typed (machine k cs es q) g formals scope slots exit_types l h =
      (h.0, h.1, channels_led g formals scope (leads_here g formals scope l) cs h.0.formals h.2, h.3, h.4)
  channels_typed hit g formals scope slots exit_types l h = tt
  channels_typed miss g formals scope slots exit_types l h = tt

-- ---- calls

length_joined : {A : Type 0} (xs ys : List A) → length (xs ++ ys) ≡ length xs + length ys
length_joined [] ys = omega arith
length_joined (x ∷ xs) ys = let q = length_joined xs ys in omega arith

pub types_front : (scope later : Scope) (c : ℕ) → c < length scope → types_on (scope ++ later) c ≡ types_on scope c
types_front [] later c h = absurd (omega arith)
types_front (ts ∷ scope) later zero h = refl
types_front (ts ∷ scope) later (suc c) h = types_front scope later c (omega arith)

types_past : (scope later : Scope) (c m : ℕ) → m ≡ c + length scope → types_on (scope ++ later) m ≡ types_on later c
types_past [] later c m e = ap (types_on later) (let q : m ≡ c = omega arith in q)
types_past (ts ∷ scope) later c zero e = absurd (omega arith)
types_past (ts ∷ scope) later c (suc m) e = types_past scope later c m (omega arith)

instance_leads : (scope : Scope) (cs : Channels) (formals : Scope) → FitChannels scope cs formals → Leads (channel_at cs (length scope)) formals scope
instance_leads scope [] [] h later c k = ((let q = length_joined scope later in omega arith), types_past scope later c (c + length scope) refl)
instance_leads scope [] (ts ∷ formals) h later c k = absurd h
instance_leads scope (x ∷ cs) [] h later c k = absurd h
instance_leads scope (x ∷ cs) (ts ∷ formals) h later zero k =
    ((let p = h.0 in let q = length_joined scope later in omega arith), types_front scope later x h.0 ∙ h.1)
instance_leads scope (x ∷ cs) (ts ∷ formals) h later (suc c) k = instance_leads scope cs formals h.2 later c (omega arith)

pub instance_typed : (table : Table) (signatures : Signatures) (formals scope : Scope) (slots exit_types : List Ty) (cs : Channels) (vs : List Value) (body : Term)
    → FitChannels scope cs formals → HaveTypes table vs slots → OfTerm table signatures formals slots exit_types body
    → OfTerm table signatures scope [] exit_types (instance cs vs (length scope) body)
instance_typed table signatures formals scope slots exit_types cs vs body h k b =
    fill_typed table signatures scope slots exit_types vs (with_channels (channel_at cs (length scope)) body) k
    (channels_typed table signatures body (channel_at cs (length scope)) formals scope slots exit_types (instance_leads scope cs formals h) b)
