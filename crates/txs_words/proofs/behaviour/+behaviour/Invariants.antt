use Rattle.std.proofs.Common.{◌+◌, ◌*◌, length}
use Rattle.txs_words.proofs.behaviour.+behaviour.Given as goal

abbrev pub decreases-prefixed : goal.decreases-prefixed
decreases-prefixed l = 4 * length l.more.now + 1

abbrev pub decreases-prefix_of : goal.decreases-prefix_of
decreases-prefix_of l = 4 * length l.words.now + 2

abbrev pub decreases-group_of : goal.decreases-group_of
decreases-group_of l = 4 * length l.words.now + 2

abbrev pub decreases-tight_of : goal.decreases-tight_of
decreases-tight_of l = 4 * length l.words.now

abbrev pub decreases-choice_of : goal.decreases-choice_of
decreases-choice_of l = 4 * length l.words.now

abbrev pub decreases-loose_of : goal.decreases-loose_of
decreases-loose_of l = 4 * length l.words.now + 1
