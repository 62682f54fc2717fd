-- How many dials that succeed, and how many hang-ups, are among events.
use Rattle.std.proofs.Common.{◌≡◌, ◌≤◌, ◌+◌, ℕ, zero, suc, true, false, List, [], ◌∷◌, ◌++◌, refl, arith}
use Rattle.txs_session.specs.declared.doing.Doing.TheVariants.{Say, Dial, Wait, Send, HangUp, Idle, Quit}
use Rattle.txs_drive.specs.Course.{Event, reads, does', dials, waits, sends, dialled_in, hung_in}
use Rattle.txs_drive.specs.Served.{last_of}

pub dialled_in-append : (a b : List Event) → dialled_in (a ++ b) ≡ dialled_in a + dialled_in b
dialled_in-append [] b = omega arith
dialled_in-append (reads line ∷ a) b = dialled_in-append a b
dialled_in-append (does' d ∷ a) b = dialled_in-append a b
dialled_in-append (dials true ∷ a) b = omega (arith, dialled_in-append a b)
dialled_in-append (dials false ∷ a) b = dialled_in-append a b
dialled_in-append (waits x ∷ a) b = dialled_in-append a b
dialled_in-append (sends v ok ∷ a) b = dialled_in-append a b

pub hung_in-append : (a b : List Event) → hung_in (a ++ b) ≡ hung_in a + hung_in b
hung_in-append [] b = omega arith
hung_in-append (reads line ∷ a) b = hung_in-append a b
hung_in-append (does' (Say n) ∷ a) b = hung_in-append a b
hung_in-append (does' Dial ∷ a) b = hung_in-append a b
hung_in-append (does' Wait ∷ a) b = hung_in-append a b
hung_in-append (does' (Send v) ∷ a) b = hung_in-append a b
hung_in-append (does' HangUp ∷ a) b = omega (arith, hung_in-append a b)
hung_in-append (does' Idle ∷ a) b = hung_in-append a b
hung_in-append (does' Quit ∷ a) b = hung_in-append a b
hung_in-append (dials ok ∷ a) b = hung_in-append a b
hung_in-append (waits x ∷ a) b = hung_in-append a b
hung_in-append (sends v ok ∷ a) b = hung_in-append a b

pub hung_last : (n : ℕ) → n ≤ 1 → hung_in (last_of n) ≡ n
hung_last zero h = refl
hung_last (suc zero) h = refl
hung_last (suc (suc n)) h = absurd (omega (arith, h))
