-- What is read of the bytes of a file is the model that it states.
use Rattle.std.proofs.Common.{◌≡◌, ◌≢◌, inl, inr, ℕ, ◌≤◌, true, not, nat_le, List, ◌++◌, length, Option, Some, None, Result, Ok, Err, IfOk, IsErrOf, refl, sym, ◌∙◌, ap, subst, bytes_eq}
use Rattle.std.specs.List.{AllByRecursion}
use Rattle.std.specs.Str.{IsUtf8}
use Rattle.txs_terms.specs.Term.{Term}
use Rattle.txs_terms.specs.Sets.{IsPlain}
use Rattle.txs_terms.specs.View.{term_of}
use Rattle.txs_words.specs.declared.load_fault.LoadFault.{LoadFault}
use Rattle.txs_words.specs.declared.load_fault.LoadFault.TheVariants.{Later, NoMemory}
use Rattle.txs_words.specs.declared.model.Model.{Model}
use Rattle.txs_words.specs.File.{IsFile, SaysSame, StatesOnly, quoted}
use Rattle.txs_words.specs.Form.{words_of}
use Rattle.txs_words.specs.inner.FileWords.{FileWords, Parts, parts_of, assembled, out_words, in_words, taken_apart, host_read, same_port, are_named, is_in_form, joined, model_read, of_file_words, words_read}
use Rattle.txs_words.specs.inner.Parsing.{Reads, behaviour_read, port_read}
use Rattle.txs_words.proofs.Apart.{apart-assembled, assembled-apart}
use Rattle.txs_words.proofs.Behaviours.{read-spells, spells-read, spells-plain}
use Rattle.txs_words.proofs.Parts.{host-quoted, quoted-host, ports-spelled, ports-read, named-each, each-named}
use Rattle.txs_values.proofs.Tests.{by-test, le-true, true-le, and-both, both-and, ne-bytes, bytes-eq, not-both, yes}
use Rattle.txs_words.proofs.Texts.{texts-behind}

-- the host among words that are texts
pub host-utf8 : (words : List (List ℕ)) (p : FileWords) → AllByRecursion IsUtf8 words → taken_apart words ≡ Some p → IsUtf8 p.host
host-utf8 words p u e =
    let all = subst (λ (ws : List (List ℕ)). AllByRecursion IsUtf8 ws) (apart-assembled words p e) u in
    let back = texts-behind p.behaviour (out_words p ++ in_words p) all.1.1.1.1.1.1.1.1.1.1.1.1.1.1.1.1.1.1.1 in
    back.1.1.1.1.1.1.1.1.1.0

-- the facts that a file states of its words
pub record States (p : FileWords) (q : Parts) : Type 0 where
  pub form : is_in_form p ≡ true
  pub port : same_port (port_read p.port_out) (port_read p.port_in) ≡ Some q.port
  pub host : host_read p.host ≡ Some q.host
  pub start : behaviour_read p.input p.output p.behaviour ≡ Some q.start
  pub input : p.input ≡ q.input
  pub output : p.output ≡ q.output
  pub name : p.name ≡ q.name
  pub link : p.link ≡ q.link

joined-states : (p : FileWords) (q : Parts) (f : is_in_form p ≡ true) (port : Option ℕ) (host : Option (List ℕ)) (start : Option Term)
    → same_port (port_read p.port_out) (port_read p.port_in) ≡ port → host_read p.host ≡ host → behaviour_read p.input p.output p.behaviour ≡ start
    → joined p port host start ≡ Some q → States p q
joined-states p q f None host start a b c h = absurd (cc)
joined-states p q f (Some port) None start a b c h = absurd (cc)
joined-states p q f (Some port) (Some host) None a b c h = absurd (cc)
joined-states p q f (Some port) (Some host) (Some start) a b c h =
    let e : (record { input = p.input; output = p.output; name = p.name; link = p.link; host = host; port = port; start = start }) ≡ q = cc in
    record {
      form = f;
      port = a ∙ ap (λ (z : Parts). Some z.port) e;
      host = b ∙ ap (λ (z : Parts). Some z.host) e;
      start = c ∙ ap (λ (z : Parts). Some z.start) e;
      input = ap (λ (z : Parts). z.input) e;
      output = ap (λ (z : Parts). z.output) e;
      name = ap (λ (z : Parts). z.name) e;
      link = ap (λ (z : Parts). z.link) e;
    }

read-states : (p : FileWords) (q : Parts) → model_read p ≡ Some q → States p q
read-states p q h = elim (by-test (is_in_form p) (joined p (same_port (port_read p.port_out) (port_read p.port_in)) (host_read p.host) (behaviour_read p.input p.output p.behaviour)) None (Some q) h) [
  | inl d ↦ joined-states p q d.0 (same_port (port_read p.port_out) (port_read p.port_in)) (host_read p.host) (behaviour_read p.input p.output p.behaviour) refl refl refl d.1
  | inr d ↦ absurd (cc)
]

pub form-channels : (p : FileWords) → is_in_form p ≡ true → (are_named p ≡ true) × (p.input ≢ p.output) × (length p.behaviour ≤ 400)
form-channels p h =
    let f = and-both (are_named p) _ h in
    let g = and-both (not (bytes_eq p.input p.output)) (nat_le (length p.behaviour) 400) f.1 in
    (f.0, (λ q. not-both (bytes_eq p.input p.output) g.0 (bytes-eq p.input p.output q)), true-le (length p.behaviour) 400 g.1)

-- words with the names of the model
pub record Named (p : FileWords) (m : Model) : Type 0 where
  pub input : p.input ≡ m.input
  pub output : p.output ≡ m.output
  pub name : p.name ≡ m.name
  pub link : p.link ≡ m.link
  pub host : p.host ≡ quoted m.host

-- the words of a model
abbrev pub file_words_for : Model → List ℕ → List (List ℕ) → List ℕ → List ℕ → List ℕ → List ℕ → FileWords
file_words_for m chandef behaviour out inn sent heard = record {
  chandef = chandef;
  input = m.input;
  output = m.output;
  name = m.name;
  behaviour = behaviour;
  link = m.link;
  host = quoted m.host;
  port_out = out;
  port_in = inn;
  sent = sent;
  heard = heard;
}

own-words : (p : FileWords) (m : Model) → Named p m → p ≡ file_words_for m p.chandef p.behaviour p.port_out p.port_in p.sent p.heard
own-words p m n =
    let made : List ℕ → List ℕ → List ℕ → List ℕ → List ℕ → FileWords = λ i o k l h. record {
      chandef = p.chandef;
      input = i;
      output = o;
      name = k;
      behaviour = p.behaviour;
      link = l;
      host = h;
      port_out = p.port_out;
      port_in = p.port_in;
      sent = p.sent;
      heard = p.heard;
    } in
    ap (λ (z : List ℕ). made z p.output p.name p.link p.host) n.input
    ∙ (ap (λ (z : List ℕ). made m.input z p.name p.link p.host) n.output
    ∙ (ap (λ (z : List ℕ). made m.input m.output z p.link p.host) n.name
    ∙ (ap (λ (z : List ℕ). made m.input m.output m.name z p.host) n.link
    ∙ ap (λ (z : List ℕ). made m.input m.output m.name m.link z) n.host)))

-- a file, of words that are those of the model
made-file : (bytes : List ℕ) (m : Model) (chandef : List ℕ) (b : List (List ℕ)) (out inn sent heard : List ℕ) → IsUtf8 bytes
    → words_of bytes ≡ assembled (file_words_for m chandef b out inn sent heard)
    → model_read (file_words_for m chandef b out inn sent heard) ≡ Some (parts_of m) → IsFile bytes m
made-file bytes m chandef b out inn sent heard u w h =
    let p : FileWords = file_words_for m chandef b out inn sent heard in
    let s = read-states (file_words_for m chandef b out inn sent heard) (parts_of m) h in
    let f = form-channels (file_words_for m chandef b out inn sent heard) s.form in
    let n = named-each (file_words_for m chandef b out inn sent heard) f.0 in
    record {
      chandef = chandef;
      behaviour = b;
      port_out = out;
      port_in = inn;
      sent = sent;
      heard = heard;
      text = u;
      words = w;
      names = n;
      channels = f.1;
      spelled = read-spells m.input m.output b (term_of m.start) s.start;
      short = f.2;
      host = (host-quoted (quoted m.host) m.host s.host).1;
      ports = ports-spelled out inn m.port s.port;
    }

pub read-file : (bytes : List ℕ) (m : Model) (p : FileWords) → IsUtf8 bytes → taken_apart (words_of bytes) ≡ Some p → model_read p ≡ Some (parts_of m) → IsFile bytes m
read-file bytes m p u e h =
    let s = read-states p (parts_of m) h in
    let n : Named p m = record { input = s.input; output = s.output; name = s.name; link = s.link; host = (host-quoted p.host m.host s.host).0 } in
    let q = own-words p m n in
    made-file bytes m p.chandef p.behaviour p.port_out p.port_in p.sent p.heard u
    (apart-assembled (words_of bytes) p e ∙ ap assembled q)
    (subst (λ (z : FileWords). model_read z ≡ Some (parts_of m)) q h)

states-joined : (p : FileWords) (q : Parts) (port : Option ℕ) (host : Option (List ℕ)) (start : Option Term) → port ≡ Some q.port → host ≡ Some q.host → start ≡ Some q.start
    → joined p port host start ≡ Some (record { input = p.input; output = p.output; name = p.name; link = p.link; host = q.host; port = q.port; start = q.start })
states-joined p q port host start a b c =
    ap (λ (z : Option ℕ). joined p z host start) a ∙ (ap (λ (z : Option (List ℕ)). joined p (Some q.port) z start) b ∙ ap (λ (z : Option Term). joined p (Some q.port) (Some q.host) z) c)

file-form : (p : FileWords) → are_named p ≡ true → p.input ≢ p.output → length p.behaviour ≤ 400 → is_in_form p ≡ true
file-form p n d s =
    both-and (are_named p) _ n (both-and (not (bytes_eq p.input p.output)) _ (ap not (ne-bytes p.input p.output d (bytes_eq p.input p.output) refl)) (le-true (length p.behaviour) 400 s))

-- the words of a file, which is read as its model
pub file-read : (bytes : List ℕ) (m : Model) → IsFile bytes m → (p : FileWords) × (taken_apart (words_of bytes) ≡ Some p) × (model_read p ≡ Some (parts_of m))
file-read bytes m f =
    let form = file-form (file_words_for m f.chandef f.behaviour f.port_out f.port_in f.sent f.heard) (each-named (file_words_for m f.chandef f.behaviour f.port_out f.port_in f.sent f.heard) f.names) f.channels f.short in (
      file_words_for m f.chandef f.behaviour f.port_out f.port_in f.sent f.heard,
      ap taken_apart f.words ∙ assembled-apart (file_words_for m f.chandef f.behaviour f.port_out f.port_in f.sent f.heard),
      yes (is_in_form (file_words_for m f.chandef f.behaviour f.port_out f.port_in f.sent f.heard)) _ None form
          ∙ states-joined (file_words_for m f.chandef f.behaviour f.port_out f.port_in f.sent f.heard) (parts_of m) _ _ _ (ports-read f.port_out f.port_in m.port f.ports.0 f.ports.1) (quoted-host m.host f.host) (spells-read m.input m.output f.names.1 f.names.2 f.channels f.behaviour (term_of m.start) f.spelled),
    )

pub file-plain : (bytes : List ℕ) (m : Model) → IsFile bytes m → IsPlain 0 (term_of m.start)
file-plain bytes m f = spells-plain m.input m.output f.spelled

read-words : (o : Option FileWords) (q : Parts) → of_file_words o ≡ Some q → (p : FileWords) × (o ≡ Some p) × (model_read p ≡ Some q)
read-words None q h = absurd (cc)
read-words (Some p) q h = (p, refl, h)

pub ok-file : (bytes : List ℕ) (r : Result Model LoadFault) → IsUtf8 bytes → Reads parts_of r (words_read (words_of bytes)) → IfOk r (λ m. IsFile bytes m)
ok-file bytes (Ok m) u h = let g = read-words (taken_apart (words_of bytes)) (parts_of m) h in read-file bytes m g.0 u g.1 g.2
ok-file bytes (Err e) u h = tt

pub plain-file : (bytes : List ℕ) (r : Result Model LoadFault) → IsUtf8 bytes → Reads parts_of r (words_read (words_of bytes)) → IfOk r (λ m. IsPlain 0 (term_of m.start))
plain-file bytes (Ok m) u h = let g = read-words (taken_apart (words_of bytes)) (parts_of m) h in file-plain bytes m (read-file bytes m g.0 u g.1 g.2)
plain-file bytes (Err e) u h = tt

unread : (bytes : List ℕ) (m : Model) → words_read (words_of bytes) ≡ None → IsFile bytes m → ⊥
unread bytes m h f =
    let g = file-read bytes m f in
    none-some (parts_of m) (words_read (words_of bytes)) h (ap of_file_words g.1 ∙ g.2)
  where
    none-some : (q : Parts) (o : Option Parts) → o ≡ None → o ≡ Some q → ⊥
    none-some q o e f = absurd (cc)

pub later-file : (bytes : List ℕ) (r : Result Model LoadFault) → Reads parts_of r (words_read (words_of bytes)) → IsErrOf r Later → (m : Model) → IsFile bytes m → ⊥
later-file bytes (Ok m) h e m' f = absurd (cc)
later-file bytes (Err Later) h e m f = unread bytes m h f
later-file bytes (Err NoMemory) h e m f = absurd (cc)

parts-same : (m n : Model) → parts_of m ≡ parts_of n → SaysSame m n
parts-same m n e = record {
  name = ap (λ (z : Parts). z.name) e;
  input = ap (λ (z : Parts). z.input) e;
  output = ap (λ (z : Parts). z.output) e;
  link = ap (λ (z : Parts). z.link) e;
  host = ap (λ (z : Parts). z.host) e;
  port = ap (λ (z : Parts). z.port) e;
  start = ap (λ (z : Parts). z.start) e;
}

-- two readings of one file are the same
one-reading : (a : Option FileWords) (p q : FileWords) (x y : Parts) → a ≡ Some p → a ≡ Some q → model_read p ≡ Some x → model_read q ≡ Some y → x ≡ y
one-reading a p q x y e f g h =
    let s : p ≡ q = cc in
    let t : Some x ≡ Some y = sym g ∙ (ap model_read s ∙ h) in
    cc

file-one : (bytes : List ℕ) (m n : Model) → IsFile bytes m → IsFile bytes n → SaysSame n m
file-one bytes m n f g =
    let a = file-read bytes m f in
    let b = file-read bytes n g in
    parts-same n m (one-reading (taken_apart (words_of bytes)) b.0 a.0 (parts_of n) (parts_of m) b.1 a.1 b.2 a.2)

pub only-file : (bytes : List ℕ) (r : Result Model LoadFault) → IsUtf8 bytes → Reads parts_of r (words_read (words_of bytes)) → IfOk r (λ m. StatesOnly bytes m)
only-file bytes (Ok m) u h = λ n f. file-one bytes m n (ok-file bytes (Ok m) u h) f
only-file bytes (Err e) u h = tt
