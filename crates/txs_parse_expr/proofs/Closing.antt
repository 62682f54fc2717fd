-- The tokens that end an operand, and those that begin one.
use Rattle.std.proofs.Common.{◌≡◌, ℕ, Bool, true, false, cond, eqb, [], ◌∷◌, ◌++◌, Option, Some, None, refl, sym, subst}
use Rattle.std.proofs.lemmas.Bool.{eqb-true}
use Rattle.txs_lexer.specs.declared.token.Token.{Token}
use Rattle.txs_lexer.specs.declared.token.Kind.{Kind}
use Rattle.txs_lexer.specs.declared.token.Kind.TheVariants.{Name, Word, Number, Quoted, Symbol}
use Rattle.txs_lexer.specs.declared.symbol.TheConstants.{MINUS, OPEN, CLOSE, COMMA, SEMICOLON}
use Rattle.txs_syntax.specs.declared.ast.Op.{Op}
use Rattle.txs_syntax.specs.declared.ast.Ast.{Ast}
use Rattle.txs_syntax.specs.Grammar.{Tokens, Marked, tokens_of, Signs, look_up, sign_of_kind, sign_of, or_signs, and_signs, compare_signs, join_signs, sum_signs, product_signs, IsSymbol, IsWord, Layer, expr, conj, cmp, cat, sum, prod, un, prim, SpellsAt, number, text, name, call_none, call_some, group, choose, bind}
use Rattle.txs_parse_expr.specs.Reader.{symbol_kind, is_symbol, at_token, kind_begins}

-- ---- the tokens that end a layer

abbrev pub ClosesProd : Kind → Type 0
ClosesProd k = (symbol_kind OPEN k ≡ false) × (sign_of_kind product_signs k ≡ None)

abbrev pub ClosesSum : Kind → Type 0
ClosesSum k = ClosesProd k × (sign_of_kind sum_signs k ≡ None)

abbrev pub ClosesCat : Kind → Type 0
ClosesCat k = ClosesSum k × (sign_of_kind join_signs k ≡ None)

abbrev pub ClosesCmp : Kind → Type 0
ClosesCmp k = ClosesCat k × (sign_of_kind compare_signs k ≡ None)

abbrev pub ClosesConj : Kind → Type 0
ClosesConj k = ClosesCmp k × (sign_of_kind and_signs k ≡ None)

abbrev pub Closes : Layer → Kind → Type 0
Closes prim k = symbol_kind OPEN k ≡ false
Closes un k = symbol_kind OPEN k ≡ false
Closes prod k = ClosesProd k
Closes sum k = ClosesSum k
Closes cat k = ClosesCat k
Closes cmp k = ClosesCmp k
Closes conj k = ClosesConj k
Closes expr k = ClosesConj k × (sign_of_kind or_signs k ≡ None)

abbrev pub Stops : Layer → Tokens → Type 0
Stops layer [] = Unit {0}
Stops layer (c ∷ ts) = Closes layer c.kind

abbrev Each : (ℕ → Type 0) → Signs → Type 0
Each P [] = Unit {0}
Each P (e ∷ signs) = P e.0 × Each P signs

listed_by : (P : ℕ → Type 0) (s n : ℕ) (p : Op) (rest : Option Op) (o : Op) → P n → (rest ≡ Some o → P s)
    → (t : Bool) → eqb s n ≡ t → cond t (Some p) rest ≡ Some o → P s
listed_by P s n p rest o h go true q k = subst P (sym (eqb-true s n q)) h
listed_by P s n p rest o h go false q k = go k

listed : (P : ℕ → Type 0) (signs : Signs) (s : ℕ) (o : Op) → Each P signs → look_up signs s ≡ Some o → P s
listed P [] s o h e = cc
listed P (f ∷ signs) s o h e =
    listed_by P s f.0 f.1 (look_up signs s) o h.0 (λ k. listed P signs s o h.1 k) (eqb s f.0) refl e

-- a sign of these closes the layer, as each of their symbols does
sign_closes : (layer : Layer) (signs : Signs) (k : Kind) (o : Op) → Each (λ s. Closes layer (Symbol s)) signs → sign_of_kind signs k ≡ Some o → Closes layer k
sign_closes layer signs (Symbol s) o h e = listed (λ k. Closes layer (Symbol k)) signs s o h e
sign_closes layer signs (Word w) o h e = cc
sign_closes layer signs (Name x) o h e = cc
sign_closes layer signs (Number n) o h e = cc
sign_closes layer signs (Quoted s) o h e = cc

pub or_closes : (c : Token) (o : Op) → sign_of or_signs c ≡ Some o → Closes conj c.kind
or_closes c o e = sign_closes conj or_signs c.kind o (((((((refl, refl), refl), refl), refl), refl)), tt) e

pub and_closes : (c : Token) (o : Op) → sign_of and_signs c ≡ Some o → Closes cmp c.kind
and_closes c o e = sign_closes cmp and_signs c.kind o ((((((refl, refl), refl), refl), refl)), tt) e

pub compare_closes : (c : Token) (o : Op) → sign_of compare_signs c ≡ Some o → Closes cat c.kind
compare_closes c o e =
    sign_closes cat compare_signs c.kind o
    ((((refl, refl), refl), refl), ((((refl, refl), refl), refl), ((((refl, refl), refl), refl), ((((refl, refl), refl), refl), ((((refl, refl), refl), refl), ((((refl, refl), refl), refl), tt)))))) e

pub join_closes : (c : Token) (o : Op) → sign_of join_signs c ≡ Some o → Closes sum c.kind
join_closes c o e = sign_closes sum join_signs c.kind o ((((refl, refl), refl)), tt) e

pub sum_closes : (c : Token) (o : Op) → sign_of sum_signs c ≡ Some o → Closes prod c.kind
sum_closes c o e = sign_closes prod sum_signs c.kind o ((refl, refl), ((refl, refl), tt)) e

pub product_closes : (c : Token) (o : Op) → sign_of product_signs c ≡ Some o → Closes un c.kind
product_closes c o e = sign_closes un product_signs c.kind o (refl, (refl, (refl, tt))) e

closed_by : (k : Kind) → Closes expr k → (c : Token) (r : Tokens) → c.kind ≡ k → Stops expr (c ∷ r)
closed_by k h c r e = subst (Closes expr) (sym e) h

pub stops_close : (c : Token) (r : Tokens) → IsSymbol CLOSE c → Stops expr (c ∷ r)
stops_close c r e = closed_by (Symbol CLOSE) ((((((refl, refl), refl), refl), refl), refl), refl) c r e

pub stops_comma : (c : Token) (r : Tokens) → IsSymbol COMMA c → Stops expr (c ∷ r)
stops_comma c r e = closed_by (Symbol COMMA) ((((((refl, refl), refl), refl), refl), refl), refl) c r e

pub stops_semicolon : (c : Token) (r : Tokens) → IsSymbol SEMICOLON c → Stops expr (c ∷ r)
stops_semicolon c r e = closed_by (Symbol SEMICOLON) ((((((refl, refl), refl), refl), refl), refl), refl) c r e

pub stops_word : (w : ℕ) (c : Token) (r : Tokens) → IsWord w c → Stops expr (c ∷ r)
stops_word w c r e = closed_by (Word w) ((((((refl, refl), refl), refl), refl), refl), refl) c r e

pub no_sign : (layer : Layer) (signs : Signs) (r : Tokens) → ((c : Token) → Closes layer c.kind → sign_of signs c ≡ None) → Stops layer r
    → (c : Token) (v : Tokens) → r ≡ c ∷ v → sign_of signs c ≡ None
no_sign layer signs r h s c v e = let k : Stops layer (c ∷ v) = subst (Stops layer) e s in h c k

pub prod_of_sum : (r : Tokens) → Stops sum r → Stops prod r
prod_of_sum [] h = tt
prod_of_sum (c ∷ r) h = h.0

pub un_of_prod : (r : Tokens) → Stops prod r → Stops un r
un_of_prod [] h = tt
un_of_prod (c ∷ r) h = h.0

pub sum_of_cat : (r : Tokens) → Stops cat r → Stops sum r
sum_of_cat [] h = tt
sum_of_cat (c ∷ r) h = h.0

pub cat_of_cmp : (r : Tokens) → Stops cmp r → Stops cat r
cat_of_cmp [] h = tt
cat_of_cmp (c ∷ r) h = h.0

pub cmp_of_conj : (r : Tokens) → Stops conj r → Stops cmp r
cmp_of_conj [] h = tt
cmp_of_conj (c ∷ r) h = h.0

pub conj_of_expr : (r : Tokens) → Stops expr r → Stops conj r
conj_of_expr [] h = tt
conj_of_expr (c ∷ r) h = h.0

-- an expression does not begin with a closing parenthesis
not_close_by : (s : ℕ) → kind_begins (Symbol s) ≡ true → (t : Bool) → eqb s CLOSE ≡ t → t ≡ false
not_close_by s h true q = let e : s ≡ CLOSE = eqb-true s CLOSE q in let k : kind_begins (Symbol CLOSE) ≡ true = subst (λ n. kind_begins (Symbol n) ≡ true) e h in cc
not_close_by s h false q = refl

pub not_close : (k : Kind) → kind_begins k ≡ true → symbol_kind CLOSE k ≡ false
not_close (Symbol s) h = not_close_by s h (eqb s CLOSE) refl
not_close (Word w) h = refl
not_close (Name x) h = refl
not_close (Number n) h = refl
not_close (Quoted s) h = refl

-- a single operand does not begin with a minus
pub not_minus : {B : Type 0} {d : ℕ} {a : Ast} {u : Marked} → SpellsAt prim d a u → (r : Tokens) (go : Token → Tokens → B) (stop : B)
    → at_token (is_symbol MINUS) (tokens_of u ++ r) go stop ≡ stop
not_minus (number c n e) r go stop = rw e refl
not_minus (text c s e) r go stop = rw e refl
not_minus (name c x e) r go stop = rw e refl
not_minus (call_none c o k x e f g) r go stop = rw e refl
not_minus (call_some c o k x e f g s) r go stop = rw e refl
not_minus (group o k e f s) r go stop = rw e refl
not_minus (choose i t l f e g h k s v w) r go stop = rw e refl
not_minus (bind l i n e f g s t) r go stop = rw e refl
