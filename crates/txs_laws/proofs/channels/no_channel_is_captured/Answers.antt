-- No channel is captured.
use Rattle.txs_laws.proofs.instances.Captured.{no_channel_is_captured}
use Rattle.txs_laws.proofs.channels.no_channel_is_captured.Goals as goal

pub returns : goal.returns
returns c = no_channel_is_captured
