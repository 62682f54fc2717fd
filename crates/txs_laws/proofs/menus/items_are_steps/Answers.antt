use Rattle.txs_laws.proofs.rules.Meaning.{menu_is_rules, prefixes_offer}
use Rattle.txs_laws.proofs.typing.Proved.{facts}
use Rattle.txs_laws.proofs.menus.items_are_steps.Goals as goal

pub returns : goal.returns
returns c = menu_is_rules facts prefixes_offer
