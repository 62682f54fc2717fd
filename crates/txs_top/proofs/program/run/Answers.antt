use Rattle.std.proofs.Common.{inl, inr, ℕ, List, refl, sym, subst, arith}
use Rattle.txs_words.specs.declared.model.Model.{Model}
use Rattle.txs_words.specs.File.{IsFile, StatesOnly}
use Rattle.txs_top.proofs.Pairs.{not-four, not-five, unlike, above}
use Rattle.txs_top.proofs.program.run.Goals as goal

pub returns-in-Err-Later-clause-refused_only : goal.returns-in-Err-Later-clause-refused_only
returns-in-Err-Later-clause-refused_only g c two = (
  c.in-Ok.bytes,
  c.in-Ok.ensures.bytes,
  λ (m : Model) (f : IsFile c.in-Ok.bytes m).
      c.in-Err-Later.ensures.later (cc (c.in-Err-Later.field-0-is)) m (subst (λ (b : List ℕ). IsFile b m) (sym c.as_slice.ensures) f),
)

pub returns-clause-headline : goal.returns-clause-headline
returns-clause-headline g c some = record {
  bytes = c.in-Ok.bytes;
  holds = c.in-Ok.ensures.bytes;
  model = c.in-Ok-run_load.model;
  states = subst (λ (b : List ℕ). IsFile b c.in-Ok-run_load.model) c.as_slice.ensures c.in-Ok-run_load.ensures.ok;
  only = subst (λ (b : List ℕ). StatesOnly b c.in-Ok-run_load.model) c.as_slice.ensures c.in-Ok-run_load.ensures.only;
  did = c.run_plain.ensures.served (not-four c.run_plain.result.code some) (not-five c.run_plain.result.code some);
}

pub returns-clause-read : goal.returns-clause-read
returns-clause-read g c three = inr (
  c.run_plain.ensures.read.once three,
  c.run_plain.ensures.read.last three,
  record {
    bytes = c.in-Ok.bytes;
    holds = c.in-Ok.ensures.bytes;
    model = c.in-Ok-run_load.model;
    states = subst (λ (b : List ℕ). IsFile b c.in-Ok-run_load.model) c.as_slice.ensures c.in-Ok-run_load.ensures.ok;
    only = subst (λ (b : List ℕ). StatesOnly b c.in-Ok-run_load.model) c.as_slice.ensures c.in-Ok-run_load.ensures.only;
    did = c.run_plain.ensures.served (unlike c.run_plain.result.code 3 4 (omega arith) three) (unlike c.run_plain.result.code 3 5 (omega arith) three);
  },
)

pub returns-clause-limit : goal.returns-clause-limit
returns-clause-limit g c six = inr (record {
  bytes = c.in-Ok.bytes;
  holds = c.in-Ok.ensures.bytes;
  model = c.in-Ok-run_load.model;
  states = subst (λ (b : List ℕ). IsFile b c.in-Ok-run_load.model) c.as_slice.ensures c.in-Ok-run_load.ensures.ok;
  only = subst (λ (b : List ℕ). StatesOnly b c.in-Ok-run_load.model) c.as_slice.ensures c.in-Ok-run_load.ensures.only;
  did = c.run_plain.ensures.served (above c.run_plain.result.code 6 4 (omega arith) six) (above c.run_plain.result.code 6 5 (omega arith) six);
})

pub returns-clause-torn : goal.returns-clause-torn
returns-clause-torn g c four = inr (record {
  bytes = c.in-Ok.bytes;
  holds = c.in-Ok.ensures.bytes;
  model = c.in-Ok-run_load.model;
  states = subst (λ (b : List ℕ). IsFile b c.in-Ok-run_load.model) c.as_slice.ensures c.in-Ok-run_load.ensures.ok;
  only = subst (λ (b : List ℕ). StatesOnly b c.in-Ok-run_load.model) c.as_slice.ensures c.in-Ok-run_load.ensures.only;
  did = c.run_plain.ensures.cut_by_sink four;
})

pub returns-clause-memory : goal.returns-clause-memory
returns-clause-memory g c five = inr (record {
  bytes = c.in-Ok.bytes;
  holds = c.in-Ok.ensures.bytes;
  model = c.in-Ok-run_load.model;
  states = subst (λ (b : List ℕ). IsFile b c.in-Ok-run_load.model) c.as_slice.ensures c.in-Ok-run_load.ensures.ok;
  only = subst (λ (b : List ℕ). StatesOnly b c.in-Ok-run_load.model) c.as_slice.ensures c.in-Ok-run_load.ensures.only;
  did = c.run_plain.ensures.cut_by_memory five;
})

pub returns-in-Err-Later-clause-torn : goal.returns-in-Err-Later-clause-torn
returns-in-Err-Later-clause-torn g c four = inl (
  c.in-Ok.bytes,
  c.in-Ok.ensures.bytes,
  λ (m : Model) (f : IsFile c.in-Ok.bytes m).
      c.in-Err-Later.ensures.later (cc (c.in-Err-Later.field-0-is)) m (subst (λ (b : List ℕ). IsFile b m) (sym c.as_slice.ensures) f),
  c.close.ensures.torn four,
  refl,
  refl,
)
