use Rattle.std.proofs.Common.{◌≡◌, ◌∙◌, ℕ, ◌+◌, List, Ok, Err, true, false, ap, sym, subst}
use Rattle.std.specs.Str.{IsUtf8}
use Rattle.txs_lexer.specs.declared.front.Front.TheVariants.{Lexeme}
use Rattle.txs_lexer.specs.declared.token.Kind.TheVariants.{Quoted}
use Rattle.txs_lexer.specs.Scan.{inside_len}
use Rattle.txs_lexer.proofs.Quoting.{test-is, meaning-is, quoted-open, quoted-closed, closed-utf8}
use Rattle.txs_lexer.proofs.quoted.quoted_token.Goals as goal

pub returns-then-not-begins_with : goal.returns-then-not-begins_with
returns-then-not-begins_with c =
    quoted-open c.args.at c.args.behind.now (test-is c.args.behind.now c.past.result.now c.inside_len-len.result c.begins_with.result false c.inside_len-len.ensures.number c.past.ensures c.begins_with.ensures c.if-not-begins_with.true)

pub text_of-requires : goal.text_of-requires
text_of-requires c =
    let quote = test-is c.args.behind.now c.past.result.now c.inside_len-len.result c.begins_with.result true c.inside_len-len.ensures.number c.past.ensures c.begins_with.ensures c.if-not-begins_with.false in
    let means = meaning-is c.args.behind.now c.first.result.now c.inside_len-len.result c.in_ok-text.field-0 (Ok c.in-Ok.text) c.inside_len-len.ensures.number c.first.ensures c.in_ok-text.ensures.read c.in-Ok.is in
    subst IsUtf8 (sym c.as_slice.ensures) (closed-utf8 c.args.behind.now c.in-Ok.text c.requires.tail quote means)

pub returns-in_ok-text-in-Ok : goal.returns-in_ok-text-in-Ok
returns-in_ok-text-in-Ok c =
    let quote = test-is c.args.behind.now c.past.result.now c.inside_len-len.result c.begins_with.result true c.inside_len-len.ensures.number c.past.ensures c.begins_with.ensures c.if-not-begins_with.false in
    let same : c.in_ok-text-in-Ok.text ≡ c.in-Ok.text = c.in_ok-text-in-Ok.ensures ∙ c.as_slice.ensures in
    let means = meaning-is c.args.behind.now c.first.result.now c.inside_len-len.result c.in_ok-text.field-0 (Ok c.in-Ok.text) c.inside_len-len.ensures.number c.first.ensures c.in_ok-text.ensures.read c.in-Ok.is in
    quoted-closed c.args.at c.args.behind.now (Ok c.in-Ok.text) quote means
    ∙ (ap (λ (q : List ℕ). Ok (Lexeme (Quoted q) (inside_len c.args.behind.now + 2))) (sym same) ∙ ap (λ (n : ℕ). Ok (Lexeme (Quoted c.in_ok-text-in-Ok.text) (n + 2))) (sym c.inside_len-len.ensures.number))

pub returns-in-Err : goal.returns-in-Err
returns-in-Err c =
    let quote = test-is c.args.behind.now c.past.result.now c.inside_len-len.result c.begins_with.result true c.inside_len-len.ensures.number c.past.ensures c.begins_with.ensures c.if-not-begins_with.false in
    let means = meaning-is c.args.behind.now c.first.result.now c.inside_len-len.result c.in_ok-text.field-0 (Err c.in-Err.k) c.inside_len-len.ensures.number c.first.ensures c.in_ok-text.ensures.read c.in-Err.is in
    quoted-closed c.args.at c.args.behind.now (Err c.in-Err.k) quote means
