use Rattle.std.proofs.Common.{◌-◌, length, inr, sym, ◌∙◌, arith}
use Rattle.txs_values.specs.View.{value_of, ty_of}
use Rattle.txs_values.proofs.Refusals.{small-from, big-from, not-small, stop-within, fault-text, stopped-at, err-same, big-refuses, ok-refuses, stop-refuses}
use Rattle.txs_values.specs.Reading.{lone_read}
use Rattle.txs_values.proofs.spellings.Lone.{lone-read, lone-same, lone-unbroken, lone-allowed}
use Rattle.txs_values.proofs.refusal.read_text.Goals as goal

pub returns-then-size_of-gt-VALUE_SIZE_LIMIT-clause-exact : goal.returns-then-size_of-gt-VALUE_SIZE_LIMIT-clause-exact
returns-then-size_of-gt-VALUE_SIZE_LIMIT-clause-exact c =
    let t = ty_of c.args.ty in
    let v = value_of c.in-Ok.value in
    inr (λ named w u s a.
    let e = lone-same c.args.table.now t named c.args.bytes.now v w c.in-Ok.ensures s in
    not-small v (big-from v c.size_of.result _ c.size_of.ensures c.if-size_of-gt-VALUE_SIZE_LIMIT.true) (rw e a.small))

pub overflow_sub-bytes : goal.overflow_sub-bytes
overflow_sub-bytes c = stop-within c.args.table.now (ty_of c.args.ty) c.args.bytes.now c.in-Err-At.kind c.in-Err-At.left (stopped-at c.in-Err-At.field-0 c.in-Err-At.kind c.in-Err-At.left (lone_read c.args.table.now (ty_of c.args.ty) c.args.bytes.now) c.in-Err-At.field-0-is c.in-Err-At.ensures)

pub fault-requires : goal.fault-requires
fault-requires c = lone-unbroken c.args.table.now (ty_of c.args.ty) c.args.bytes.now c.in-Err-At.kind c.in-Err-At.left (stopped-at c.in-Err-At.field-0 c.in-Err-At.kind c.in-Err-At.left (lone_read c.args.table.now (ty_of c.args.ty) c.args.bytes.now) c.in-Err-At.field-0-is c.in-Err-At.ensures) c.requires

pub returns-else-size_of-gt-VALUE_SIZE_LIMIT-clause-exact : goal.returns-else-size_of-gt-VALUE_SIZE_LIMIT-clause-exact
returns-else-size_of-gt-VALUE_SIZE_LIMIT-clause-exact c =
    let v = value_of c.in-Ok.value in
    let r = lone-read c.args.table.now (ty_of c.args.ty) c.args.bytes.now c.args.bytes.now v c.in-Ok.ensures (small-from v c.size_of.result _ c.size_of.ensures (omega arith) c.if-size_of-gt-VALUE_SIZE_LIMIT.false) in
    (c.requires, r.0, r.1)

pub returns-in-Err-At-clause-exact : goal.returns-in-Err-At-clause-exact
returns-in-Err-At-clause-exact c =
    inr (λ named v u s a. lone-allowed c.args.table.now (ty_of c.args.ty) named c.args.bytes.now c.in-Err-At.kind c.in-Err-At.left (stopped-at c.in-Err-At.field-0 c.in-Err-At.kind c.in-Err-At.left (lone_read c.args.table.now (ty_of c.args.ty) c.args.bytes.now) c.in-Err-At.field-0-is c.in-Err-At.ensures) v s a)

pub returns-in-Err-At-clause-text : goal.returns-in-Err-At-clause-text
returns-in-Err-At-clause-text c e =
    fault-text c.in-Err-At.kind (length c.args.bytes.now - c.in-Err-At.left)
    (lone-unbroken c.args.table.now (ty_of c.args.ty) c.args.bytes.now c.in-Err-At.kind c.in-Err-At.left (stopped-at c.in-Err-At.field-0 c.in-Err-At.kind c.in-Err-At.left (lone_read c.args.table.now (ty_of c.args.ty) c.args.bytes.now) c.in-Err-At.field-0-is c.in-Err-At.ensures) c.requires)
    (sym c.fault.ensures ∙ err-same e)

pub returns-then-size_of-gt-VALUE_SIZE_LIMIT-clause-refused : goal.returns-then-size_of-gt-VALUE_SIZE_LIMIT-clause-refused
returns-then-size_of-gt-VALUE_SIZE_LIMIT-clause-refused c readable m f d =
    let v = value_of c.in-Ok.value in
    big-refuses c.args.table.now (ty_of c.args.ty) c.args.bytes.now readable c.requires v c.in-Ok.ensures (big-from v c.size_of.result _ c.size_of.ensures c.if-size_of-gt-VALUE_SIZE_LIMIT.true) f d

pub returns-else-size_of-gt-VALUE_SIZE_LIMIT-clause-refused : goal.returns-else-size_of-gt-VALUE_SIZE_LIMIT-clause-refused
returns-else-size_of-gt-VALUE_SIZE_LIMIT-clause-refused c readable m f d =
    let v = value_of c.in-Ok.value in
    ok-refuses c.args.table.now (ty_of c.args.ty) c.args.bytes.now readable c.requires v c.in-Ok.ensures (small-from v c.size_of.result _ c.size_of.ensures (omega arith) c.if-size_of-gt-VALUE_SIZE_LIMIT.false) c.in-Ok.value f d

pub returns-in-Err-At-clause-refused : goal.returns-in-Err-At-clause-refused
returns-in-Err-At-clause-refused c readable m f d =
    stop-refuses c.args.table.now (ty_of c.args.ty) c.args.bytes.now readable c.requires c.in-Err-At.kind c.in-Err-At.left (stopped-at c.in-Err-At.field-0 c.in-Err-At.kind c.in-Err-At.left (lone_read c.args.table.now (ty_of c.args.ty) c.args.bytes.now) c.in-Err-At.field-0-is c.in-Err-At.ensures) c.fault.result c.fault.ensures f d
