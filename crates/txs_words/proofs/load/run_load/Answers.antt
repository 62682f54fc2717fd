use Rattle.std.proofs.Common.{List, ℕ, sym, subst}
use Rattle.txs_words.specs.File.{IsFile}
use Rattle.txs_words.proofs.load.run_load.Goals as goal

pub returns-in-Ok-clause-later : goal.returns-in-Ok-clause-later
returns-in-Ok-clause-later c e m f = c.load_text.ensures.later e m (subst (λ (bs : List ℕ). IsFile bs m) (sym c.in-Ok.ensures.cases.0) f)
