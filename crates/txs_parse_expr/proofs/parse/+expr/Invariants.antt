use Rattle.std.proofs.Common.{◌≡◌, ◌+◌, ◌-◌, ◌*◌, ◌<◌, ◌≤◌, drop, length, suc}
use Rattle.txs_lexer.specs.declared.symbol.TheConstants.{COMMA, SEMICOLON}
use Rattle.txs_parse_expr.specs.Reader.{readers, many, bind_at}
use Rattle.txs_parse_expr.proofs.Steps.{with_front}
use Rattle.txs_parse_expr.proofs.parse.+expr.Given as goal

abbrev pub decreases-expr : goal.decreases-expr
decreases-expr l = 16 * l.left + 10

abbrev pub decreases-conj : goal.decreases-conj
decreases-conj l = 16 * l.left + 9

abbrev pub decreases-cmp : goal.decreases-cmp
decreases-cmp l = 16 * l.left + 8

abbrev pub decreases-cat : goal.decreases-cat
decreases-cat l = 16 * l.left + 7

abbrev pub decreases-sum : goal.decreases-sum
decreases-sum l = 16 * l.left + 6

abbrev pub decreases-prod : goal.decreases-prod
decreases-prod l = 16 * l.left + 5

abbrev pub decreases-un : goal.decreases-un
decreases-un l = 16 * l.left + 4

abbrev pub decreases-prim : goal.decreases-prim
decreases-prim l = 16 * l.left + 3

abbrev pub decreases-bracket : goal.decreases-bracket
decreases-bracket l = 16 * l.left + 2

abbrev pub decreases-choose : goal.decreases-choose
decreases-choose l = 16 * l.left + 2

abbrev pub decreases-named : goal.decreases-named
decreases-named l = 16 * l.left + 2

abbrev pub decreases-call : goal.decreases-call
decreases-call l = 16 * l.left + 1

abbrev pub decreases-arguments : goal.decreases-arguments
decreases-arguments l = 16 * l.left + 12

abbrev pub invariant-sum-loop-op : goal.invariant-sum-loop-op
invariant-sum-loop-op l = ((readers l.left).sum (drop l.at l.tokens) ≡ (readers l.room).sums l.a (drop l.next l.tokens)) × (0 < l.room) × (l.at < l.next) × (0 < l.left) × (l.room ≤ l.left) × (l.next ≤ length l.tokens)

abbrev pub decreases-sum-loop-op : goal.decreases-sum-loop-op
decreases-sum-loop-op l = l.room

abbrev pub invariant-prod-loop-op : goal.invariant-prod-loop-op
invariant-prod-loop-op l = ((readers l.left).prod (drop l.at l.tokens) ≡ (readers l.room).prods l.a (drop l.next l.tokens)) × (0 < l.room) × (l.at < l.next) × (0 < l.left) × (l.room ≤ l.left) × (l.next ≤ length l.tokens)

abbrev pub decreases-prod-loop-op : goal.decreases-prod-loop-op
decreases-prod-loop-op l = l.room

abbrev pub invariant-arguments-loop-items : goal.invariant-arguments-loop-items
invariant-arguments-loop-items l = (many (readers l.left).expr COMMA (suc (length (drop l.at l.tokens))) (drop l.at l.tokens)
    ≡ with_front l.items (many (readers l.left).expr COMMA (suc (length (drop l.next l.tokens))) (drop l.next l.tokens))) × (l.at ≤ l.next)

abbrev pub decreases-arguments-loop-items : goal.decreases-arguments-loop-items
decreases-arguments-loop-items l = length l.tokens - l.next

abbrev pub decreases-lets : goal.decreases-lets
decreases-lets l = 16 * l.left + 2

abbrev pub decreases-binds : goal.decreases-binds
decreases-binds l = 16 * l.left + 14

abbrev pub decreases-bind : goal.decreases-bind
decreases-bind l = 16 * l.left + 13

abbrev pub decreases-value : goal.decreases-value
decreases-value l = 16 * l.left + 11

abbrev pub invariant-binds-loop-list : goal.invariant-binds-loop-list
invariant-binds-loop-list l = (many (bind_at (readers l.left)) SEMICOLON (suc (length (drop l.at l.tokens))) (drop l.at l.tokens)
    ≡ with_front l.list (many (bind_at (readers l.left)) SEMICOLON (suc (length (drop l.next l.tokens))) (drop l.next l.tokens))) × (l.at ≤ l.next)

abbrev pub decreases-binds-loop-list : goal.decreases-binds-loop-list
decreases-binds-loop-list l = length l.tokens - l.next

abbrev pub decreases-bind_value : goal.decreases-bind_value
decreases-bind_value l = 16 * l.left + 12
