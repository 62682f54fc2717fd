-- The actual channels stand for the formal ones, and the channels of the body's HIDEs above all that are in scope.
use Rattle.std.proofs.Common.{◌≡◌, ℕ, zero, suc, ◌+◌, ◌<◌, [], ◌∷◌, length, Some, refl, ap, ◌∙◌, arith}
use Rattle.std.specs.Prelude.{slice_get}
use Rattle.txs_terms.specs.Action.{Channels, Scope}
use Rattle.txs_terms.specs.Term.{Term, channel_at, with_channels}
use Rattle.txs_terms.specs.Expr.{filled}
use Rattle.txs_terms.specs.Typed.{FitChannels}
use Rattle.txs_laws.specs.Channels.{NoChannelIsCaptured}
use Rattle.txs_laws.proofs.instances.Names.{names_put, gates_put, hidden_put, names_with, gates_with, hidden_with}

-- a formal channel is the actual one, which is in scope
formal_at : (scope : Scope) (cs : Channels) (formals : Scope) (c : ℕ) → FitChannels scope cs formals → c < length formals
    → (slice_get cs c ≡ Some (channel_at cs (length scope) c)) × (channel_at cs (length scope) c < length scope)
formal_at scope [] [] c fit h = absurd (omega arith)
formal_at scope [] (ts ∷ formals) c fit h = absurd fit
formal_at scope (x ∷ cs) [] c fit h = absurd fit
formal_at scope (x ∷ cs) (ts ∷ formals) zero fit h = (refl, fit.0)
formal_at scope (x ∷ cs) (ts ∷ formals) (suc c) fit h = formal_at scope cs formals c fit.2 (omega arith)

-- a channel of a HIDE stands as far above the scope as it stood above the formal ones
bound_at : (scope : Scope) (cs : Channels) (formals : Scope) (k : ℕ) → FitChannels scope cs formals
    → channel_at cs (length scope) (length formals + k) ≡ length scope + k
bound_at scope [] [] k fit = omega arith
bound_at scope [] (ts ∷ formals) k fit = absurd fit
bound_at scope (x ∷ cs) [] k fit = absurd fit
bound_at scope (x ∷ cs) (ts ∷ formals) k fit =
    let e : length (ts ∷ formals) + k ≡ suc (length formals + k) = omega arith in
    ap (channel_at (x ∷ cs) (length scope)) e ∙ bound_at scope cs formals k fit.2

pub no_channel_is_captured : NoChannelIsCaptured
no_channel_is_captured scope formals cs vs body fit =
    let become : ℕ → ℕ = channel_at cs (length scope) in
    let t : Term = with_channels become body in (
      become,
      record {
        names = names_put (filled vs) t ∙ names_with become body;
        gates = gates_put (filled vs) t ∙ gates_with become body;
        hides = hidden_put (filled vs) t ∙ hidden_with become body;
        formal = λ c h. formal_at scope cs formals c fit h;
        bound = λ k. bound_at scope cs formals k fit;
      },
    )
