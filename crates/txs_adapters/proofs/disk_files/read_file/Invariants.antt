use Rattle.std.proofs.Common.{◌-◌, length}
use Rattle.txs_adapters.proofs.disk_files.read_file.Given as goal

abbrev pub decreases-reads : goal.decreases-reads
decreases-reads g l = 1048577 - length l.bytes
