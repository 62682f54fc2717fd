-- A term is quiescent exactly where its menu is silent.
use Rattle.std.proofs.Common.{◌≡◌, List, [], sym, subst}
use Rattle.txs_values.specs.Value.{Ty}
use Rattle.txs_terms.specs.Action.{act, inner, Scope}
use Rattle.txs_terms.specs.Term.{Term}
use Rattle.txs_terms.specs.Rules.{Model}
use Rattle.txs_terms.specs.Typed.{Signatures}
use Rattle.txs_terms.specs.Menu.{Kind, within, path_limit}
use Rattle.txs_terms.specs.Expr.{Expr, put_all, filled}
use Rattle.txs_terms.specs.Eval.{Hold}
use Rattle.txs_laws.specs.Items.{IsItem}
use Rattle.txs_laws.specs.Quiescence.{QuietIsSilent}
use Rattle.txs_laws.proofs.typing.Facts.{Facts}
use Rattle.txs_laws.proofs.rules.Hide.{item_of}
use Rattle.txs_laws.proofs.rules.Meaning.{PrefixesOffer, menu_is_rules}

-- an internal item has no guards, so they hold
no_guards : (model : Model) (signatures : Signatures) (scope : Scope) (exit_types : List Ty) (k : Kind) (gs : List Expr) (t : Term)
    → IsItem model.defs.table signatures scope exit_types k gs t → k ≡ within → Hold model.defs (put_all (filled []) gs)
no_guards model signatures scope exit_types k gs t h e =
    let p : IsItem model.defs.table signatures scope exit_types within gs t = subst (λ x. IsItem model.defs.table signatures scope exit_types x gs t) e h in
    subst (λ es. Hold model.defs (put_all (filled []) es)) (sym p.0) tt

pub quiet_is_silent : Facts → PrefixesOffer → QuietIsSilent
quiet_is_silent facts offer model scope sync t n items w e =
    let means = menu_is_rules facts offer model scope t n items w e in
    let typed = facts.walk_typed model w.signatures w.definitions path_limit scope w.exit_types t 0 n items w.term e in (
      λ q i h. (
        λ k. q.still _ (means.0 i inner h (record {
          kind = sym k;
          typed = tt;
          holds = no_guards model w.signatures scope w.exit_types i.kind i.guards i.rest (item_of model.defs.table w.signatures scope w.exit_types i items h typed) k;
        })),
        λ s. q.silent s.0 _ s.1 (means.0 i (act s.0) h s.2),
      ),
      λ f. record {
        still = λ t' s. let x = means.1 inner t' s in (f x.item x.listed).0 (sym x.does.kind);
        silent = λ a t' o s. let x = means.1 (act a) t' s in (f x.item x.listed).1 (a, o, x.does);
      },
    )
