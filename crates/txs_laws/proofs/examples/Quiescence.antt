-- Terms that are quiescent, and one that is not.
use Rattle.std.proofs.Common.{◌≡◌, inl, [], ◌∷◌, Option, None, Some, refl, arith}
use Rattle.txs_terms.specs.Rules.{steps, unfold'}
use Rattle.txs_terms.specs.After.{Sync, IsQuiescent}
use Rattle.txs_terms.specs.Typed.{Signatures, IsTable, IsTypedModel, WellTyped, val_of, slot_of}
use Rattle.txs_laws.proofs.typing.Proved.{facts}
use Rattle.txs_laws.proofs.rules.Meaning.{prefixes_offer}
use Rattle.txs_laws.proofs.rules.Quiet.{quiet_is_silent}
use Rattle.txs_laws.proofs.examples.Words.{limits, nothing, int, pair}
use Rattle.txs_laws.proofs.examples.Closed.{loops, loop}
use Rattle.txs_laws.proofs.examples.Communication.{two_exits, two_exits_menu}

-- Out is the second channel
abbrev sync : Sync
sync = record { ins = (0 ∷ []) ∷ []; outs = (1 ∷ []) ∷ [] }

-- PROCDEF P [ ] ( ) ::= ISTEP >-> P [ ] ( ) ENDDEF: P never says anything, and is not quiescent
loop_not_quiescent : IsQuiescent loops pair sync loop → ⊥
loop_not_quiescent q = q.still loop (unfold' [] _ refl tt (steps tt))

none_some : {A : Type 0} {p : A} → ◌≡◌ {A = Option A} None (Some p) → ⊥
none_some e = cc

abbrev no_signatures : Signatures
no_signatures = record { functions = []; constants = []; processes = []; automata = [] }

no_table : IsTable []
no_table = record { defaults = λ k h. absurd (omega (arith, h)); known = λ c p e. absurd (none_some e) }

pub nothing_typed : IsTypedModel nothing no_signatures
nothing_typed = record {
  defs = record { table = no_table; functions = λ f s e. absurd (none_some e); constants = λ k t e. absurd (none_some e) };
  bodies = λ p s e. absurd (none_some e);
  automata = λ k s e. absurd (none_some e);
  transitions = λ k s q formals m e. absurd (none_some e);
}

-- EXIT ! 1 ||| EXIT ! 2 >>> ACCEPT ? x IN Out ! x >-> STOP NI: the exits do not meet, so it is quiescent
two_exits_typed : WellTyped nothing pair two_exits
unfolding limits
two_exits_typed = record {
  signatures = no_signatures;
  exit_types = [];
  definitions = nothing_typed;
  channels = ((tt, tt), ((tt, tt), tt));
  term = (int, refl, (tt, tt, inl ((val_of refl, tt), (val_of refl, tt))), ((omega arith, (slot_of refl, tt), tt), tt, tt, refl));
}

two_exits_quiescent : IsQuiescent nothing pair sync two_exits
two_exits_quiescent = (quiet_is_silent facts prefixes_offer nothing pair sync two_exits 4 [] two_exits_typed two_exits_menu).1 (λ i h. absurd h)
