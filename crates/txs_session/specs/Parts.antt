-- Parts of a command line.
use Rattle.std.specs.Prelude.{ℕ, ◌+◌, List, [], take, drop, reverse, Option, Some, None, position, eqb}
use Rattle.txs_values.specs.Spelling.{is_blank, past_blanks}

-- the bytes without the blanks at both ends
abbrev pub stripped : List ℕ → List ℕ
stripped bs = reverse (past_blanks (reverse (past_blanks bs)))

-- the parts before and after a place
abbrev pub around : Option ℕ → List ℕ → Option (List ℕ × List ℕ)
around None bs = None
around (Some at) bs = Some (take at bs, drop (at + 1) bs)

-- the parts before and after the first such byte
abbrev pub cut_at : ℕ → List ℕ → Option (List ℕ × List ℕ)
cut_at c bs = around (position (λ b. eqb b c) bs) bs

abbrev pub or_all : Option (List ℕ × List ℕ) → List ℕ → List ℕ × List ℕ
or_all None bs = (bs, [])
or_all (Some parts) bs = parts

-- the first word, and what stands after the blank after it
abbrev pub word_cut : List ℕ → List ℕ × List ℕ
word_cut bs = or_all (around (position is_blank bs) bs) bs
