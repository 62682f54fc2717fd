use Rattle.txs_words.proofs.form.is_front.Goals as goal

pub returns : goal.returns
returns c = rw (c.as_bytes.ensures.value, c.as_bytes-2.ensures.value, c.as_bytes-3.ensures.value, c.as_bytes-4.ensures.value, c.as_bytes-5.ensures.value, c.as_bytes-6.ensures.value, c.as_bytes-7.ensures.value, c.as_bytes-8.ensures.value, c.as_bytes-9.ensures.value, c.as_bytes-10.ensures.value, c.as_bytes-11.ensures.value, c.as_bytes-12.ensures.value, c.as_bytes-13.ensures.value) at c.are_words.ensures
