-- The expressions, actions and terms that the program's types stand for.
use Rattle.std.specs.Prelude.{ℕ, List, [], ◌∷◌, map}
use Rattle.txs_values.specs.View.{values_of, value_of, ty_of}
use Rattle.txs_values.specs.Value.{Table}
use Rattle.txs_terms.specs.declared.expr.Expr as rust_expr
use Rattle.txs_terms.specs.declared.expr.Binding as rust_binding
use Rattle.txs_terms.specs.declared.expr.Expr.TheOpen.{Expr-F, Binding-F}
use Rattle.txs_terms.specs.declared.expr.Expr.TheFolds.{fold-Expr}
use Rattle.txs_terms.specs.declared.expr.Unary as rust_unary
use Rattle.txs_terms.specs.declared.expr.Unary.TheVariants as unary
use Rattle.txs_terms.specs.declared.expr.Binary as rust_binary
use Rattle.txs_terms.specs.declared.expr.Binary.TheVariants as binary
use Rattle.txs_terms.specs.declared.offer.Position as rust_position
use Rattle.txs_terms.specs.declared.offer.Position.TheVariants as position
use Rattle.txs_terms.specs.declared.offer.Offer as rust_offer
use Rattle.txs_terms.specs.declared.action.Part as rust_part
use Rattle.txs_terms.specs.declared.action.Action as rust_action
use Rattle.txs_terms.specs.declared.tree.Tree as rust_tree
use Rattle.txs_terms.specs.declared.tree.Tree.TheOpen.{Tree-F}
use Rattle.txs_terms.specs.declared.tree.Tree.TheFolds.{fold-Tree}
use Rattle.txs_terms.specs.declared.term.Term as rust_term
use Rattle.txs_terms.specs.declared.term.Top as rust_top
use Rattle.txs_terms.specs.declared.term.Top.TheVariants as top
use Rattle.txs_terms.specs.declared.defs.FunctionDef as rust_function
use Rattle.txs_terms.specs.declared.defs.ConstantDef as rust_constant
use Rattle.txs_terms.specs.Defs.{Function, Constant, Definitions}
use Rattle.txs_terms.specs.Expr.{Unary, negate, negation, to_text, from_text, len, is_made_by, select, Binary, plus, minus, times, divide, remainder, concat, differ, less_than, at_most, more_than, at_least, char_at, Expr, val, slot, local, constant, one, two, equal, both, either, choose, apply, build, let_in, Exprs, none, more, Puts, put}
use Rattle.txs_terms.specs.Action.{Part, Action}
use Rattle.txs_terms.specs.Term.{Position, give, take, Offer, Term, stop, exits, prefix, step, guard, choice, par, enable, disable, interrupt, hide, call, bind, machine, hit, miss}

abbrev pub unary_of : rust_unary.Unary → Unary
unary_of unary.Negate = negate
unary_of unary.Not = negation
unary_of unary.ToText = to_text
unary_of (unary.FromText t) = from_text (ty_of t)
unary_of unary.Length = len
unary_of (unary.IsMadeBy c) = is_made_by c
unary_of (unary.Select c i) = select c i

abbrev pub binary_of : rust_binary.Binary → Binary
binary_of binary.Plus = plus
binary_of binary.Minus = minus
binary_of binary.Times = times
binary_of binary.Divide = divide
binary_of binary.Remainder = remainder
binary_of binary.Concat = concat
binary_of binary.Differ = differ
binary_of binary.LessThan = less_than
binary_of binary.AtMost = at_most
binary_of binary.MoreThan = more_than
binary_of binary.AtLeast = at_least
binary_of binary.CharAt = char_at

-- expressions as a call holds them
abbrev pub gathered : List Expr → Exprs
gathered [] = none
gathered (e ∷ es) = more e (gathered es)

-- a name with the expression that it is bound to
abbrev pub Bound : Type 0
Bound = List ℕ × Expr

-- Names bound in turn around a body: each is seen in the ones after it and in the body.
abbrev pub let_all : List Bound → Expr → Expr
let_all [] e = e
let_all (b ∷ bs) e = let_in b.0 b.1 (let_all bs e)

-- a binding whose expression is filled
abbrev pub put_bound : Puts → Bound → Bound
put_bound f b = (b.0, put f b.1)

abbrev pub bound_step : Binding-F Expr Bound → Bound
bound_step b = (b.name, b.value)

-- one level, with each expression below already seen
abbrev pub expr_step : Expr-F Expr Bound → Expr
expr_step (Expr-F.Value v) = val (value_of v)
expr_step (Expr-F.Slot i) = slot i
expr_step (Expr-F.Local i) = local i
expr_step (Expr-F.Constant k) = constant k
expr_step (Expr-F.One o a) = one (unary_of o) a
expr_step (Expr-F.Two o a b) = two (binary_of o) a b
expr_step (Expr-F.Equal a b) = equal a b
expr_step (Expr-F.And a b) = both a b
expr_step (Expr-F.Or a b) = either a b
expr_step (Expr-F.If c a b) = choose c a b
expr_step (Expr-F.Call f es) = apply f (gathered es)
expr_step (Expr-F.Build c es) = build c (gathered es)
expr_step (Expr-F.Let bs e) = let_all bs e

abbrev pub expr_of : rust_expr.Expr → Expr
expr_of = fold-Expr Expr Bound expr_step bound_step

abbrev pub bound_of : rust_binding.Binding → Bound
bound_of b = (b.name, expr_of b.value)

abbrev pub bounds_of : List rust_binding.Binding → List Bound
bounds_of bs = map bound_of bs

abbrev pub exprs_of : List rust_expr.Expr → List Expr
exprs_of es = map expr_of es

abbrev pub function_of : rust_function.FunctionDef → Function
function_of f = record { name = f.name; takes = map ty_of f.takes; gives = ty_of f.gives; body = expr_of f.body }

abbrev pub constant_of : rust_constant.ConstantDef → Constant
constant_of k = record { name = k.name; ty = ty_of k.ty; body = expr_of k.body }

-- what the program holds of a file's definitions
abbrev pub Held : Type 0
Held = Table × List rust_function.FunctionDef × List rust_constant.ConstantDef

abbrev pub definitions_of : Held → Definitions
definitions_of h = record { table = h.0; functions = map function_of h.1; constants = map constant_of h.2 }

abbrev pub position_of : rust_position.Position → Position
position_of (position.Give e) = give (expr_of e)
position_of (position.Take x) = take x

abbrev pub offer_of : rust_offer.Offer → Offer
offer_of o = record { channel = o.channel; positions = map position_of o.positions }

abbrev pub offers_of : List rust_offer.Offer → List Offer
offers_of os = map offer_of os

abbrev pub part_of : rust_part.Part → Part
part_of p = record { channel = p.channel; values = values_of p.values }

abbrev pub action_of : rust_action.Action → Action
action_of a = map part_of a.parts

-- a prefix, which is an internal step if there is no offer
abbrev pub prefix_by : List Offer → List Expr → Term → Term
prefix_by [] gs t = step gs t
prefix_by (o ∷ os) gs t = prefix (o ∷ os) gs t

-- one level, with each term below already seen
abbrev pub tree_step : Tree-F Term → Term
tree_step Tree-F.Stop = stop
tree_step (Tree-F.Prefix os gs t) = prefix_by (offers_of os) (exprs_of gs) t
tree_step (Tree-F.Choice a b) = choice a b

abbrev pub tree_of : rust_tree.Tree → Term
tree_of = fold-Tree Term tree_step

abbrev pub term_of : rust_term.Term → Term
term_of t = tree_of t.tree

abbrev pub terms_of : List rust_term.Term → List Term
terms_of ts = map term_of ts

abbrev pub top_of : rust_top.Top → Term
top_of top.Stop = stop
top_of (top.Exit es) = exits (exprs_of es)
top_of (top.Prefix os gs t) = prefix_by (offers_of os) (exprs_of gs) (term_of t)
top_of (top.Guard gs t) = guard (exprs_of gs) (term_of t)
top_of (top.Choice a b) = choice (term_of a) (term_of b)
top_of (top.Par gates a b) = par gates (term_of a) (term_of b)
top_of (top.Enable a xs b) = enable (term_of a) xs (term_of b)
top_of (top.Disable a b) = disable (term_of a) (term_of b)
top_of (top.Interrupt a b) = interrupt (term_of a) (term_of b)
top_of (top.Hide hs t) = hide (map (map ty_of) hs) (term_of t)
top_of (top.Call c) = call c.process c.channels (exprs_of c.args)
top_of (top.Let xs es t) = bind xs (exprs_of es) (term_of t)
top_of (top.Automaton k q cs es) = machine k cs (exprs_of es) q
top_of top.Hit = hit
top_of top.Miss = miss
