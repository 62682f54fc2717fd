use Rattle.std.proofs.Common.{rules, ◌≡◌, inl, inr, ◌∷◌, [], ℕ, List, Some, string_bytes, codes, sym, ◌∙◌, ap, subst, Global}
use Rattle.txs_top.proofs.Pairs.{pair-is, second-is}
use Rattle.txs_top.proofs.program.top.Goals as goal

pub returns-clause-usage : goal.returns-clause-usage
returns-clause-usage g c none =
    let word : string_bytes c.word-item.result ≡ codes "run" = search rules in
    let both = pair-is _ (string_bytes {Z = Global}) c.args.words.now c.word-item.result c.file-item.result c.in-len2.len_at_least c.in-len2.len_below c.word-item.is c.file-item.is in
    absurd (none (string_bytes c.file-item.result) (both ∙ ap (λ (q : List ℕ). q ∷ string_bytes c.file-item.result ∷ []) word))

pub returns-clause-usage_alone : goal.returns-clause-usage_alone
returns-clause-usage_alone g c none =
    let word : string_bytes c.word-item.result ≡ codes "run" = search rules in
    let both = pair-is _ (string_bytes {Z = Global}) c.args.words.now c.word-item.result c.file-item.result c.in-len2.len_at_least c.in-len2.len_below c.word-item.is c.file-item.is in
    absurd (none (string_bytes c.file-item.result) (both ∙ ap (λ (q : List ℕ). q ∷ string_bytes c.file-item.result ∷ []) word))

pub returns-clause-headline : goal.returns-clause-headline
returns-clause-headline g c some =
    let word : string_bytes c.word-item.result ≡ codes "run" = search rules in
    let both = pair-is _ (string_bytes {Z = Global}) c.args.words.now c.word-item.result c.file-item.result c.in-len2.len_at_least c.in-len2.len_below c.word-item.is c.file-item.is in
    (c.as_str-2.result.now, both ∙ ap (λ (q : List ℕ). q ∷ string_bytes c.file-item.result ∷ []) word ∙ ap (λ (q : List ℕ). codes "run" ∷ q ∷ []) (sym c.as_str-2.ensures.value), c.run.ensures.headline some)

pub returns-clause-refused : goal.returns-clause-refused
returns-clause-refused g c file bytes words told short m =
    let both = pair-is _ (string_bytes {Z = Global}) c.args.words.now c.word-item.result c.file-item.result c.in-len2.len_at_least c.in-len2.len_below c.word-item.is c.file-item.is in
    let same = second-is _ _ _ _ (sym both ∙ words) in
    c.run.ensures.refused bytes (subst (λ (q : List ℕ). g.F.Files.contents c.args.files.now q ≡ Some bytes) (sym (c.as_str-2.ensures.value ∙ same)) told) short m

pub returns-clause-refused_only : goal.returns-clause-refused_only
returns-clause-refused_only g c two =
    let word : string_bytes c.word-item.result ≡ codes "run" = search rules in
    let both = pair-is _ (string_bytes {Z = Global}) c.args.words.now c.word-item.result c.file-item.result c.in-len2.len_at_least c.in-len2.len_below c.word-item.is c.file-item.is in
    let r = c.run.ensures.refused_only two in
    (r.0, record { file = c.as_str-2.result.now; run = both ∙ ap (λ (q : List ℕ). q ∷ string_bytes c.file-item.result ∷ []) word ∙ ap (λ (q : List ℕ). codes "run" ∷ q ∷ []) (sym c.as_str-2.ensures.value); holds = r.1 }, r.2)

pub returns-clause-read : goal.returns-clause-read
returns-clause-read g c three =
    let word : string_bytes c.word-item.result ≡ codes "run" = search rules in
    let both = pair-is _ (string_bytes {Z = Global}) c.args.words.now c.word-item.result c.file-item.result c.in-len2.len_at_least c.in-len2.len_below c.word-item.is c.file-item.is in
    let is = both ∙ ap (λ (q : List ℕ). q ∷ string_bytes c.file-item.result ∷ []) word ∙ ap (λ (q : List ℕ). codes "run" ∷ q ∷ []) (sym c.as_str-2.ensures.value) in
    elim (c.run.ensures.read three) [
      | inl a ↦ inl a
      | inr b ↦ inr (b.0, b.1, (c.as_str-2.result.now, is, b.2))
    ]

pub returns-clause-limit : goal.returns-clause-limit
returns-clause-limit g c six =
    let word : string_bytes c.word-item.result ≡ codes "run" = search rules in
    let both = pair-is _ (string_bytes {Z = Global}) c.args.words.now c.word-item.result c.file-item.result c.in-len2.len_at_least c.in-len2.len_below c.word-item.is c.file-item.is in
    let is = both ∙ ap (λ (q : List ℕ). q ∷ string_bytes c.file-item.result ∷ []) word ∙ ap (λ (q : List ℕ). codes "run" ∷ q ∷ []) (sym c.as_str-2.ensures.value) in
    elim (c.run.ensures.limit six) [
      | inl a ↦ inl ((c.as_str-2.result.now, is, a.0), a.1, a.2, a.3)
      | inr b ↦ inr (c.as_str-2.result.now, is, b)
    ]

pub returns-clause-file_limit : goal.returns-clause-file_limit
returns-clause-file_limit g c file bytes words told long =
    let both = pair-is _ (string_bytes {Z = Global}) c.args.words.now c.word-item.result c.file-item.result c.in-len2.len_at_least c.in-len2.len_below c.word-item.is c.file-item.is in
    let same = second-is _ _ _ _ (sym both ∙ words) in
    c.run.ensures.file_limit bytes (subst (λ (q : List ℕ). g.F.Files.contents c.args.files.now q ≡ Some bytes) (sym (c.as_str-2.ensures.value ∙ same)) told) long

pub returns-clause-refused_unread : goal.returns-clause-refused_unread
returns-clause-refused_unread g c file bytes words told m =
    let both = pair-is _ (string_bytes {Z = Global}) c.args.words.now c.word-item.result c.file-item.result c.in-len2.len_at_least c.in-len2.len_below c.word-item.is c.file-item.is in
    let same = second-is _ _ _ _ (sym both ∙ words) in
    c.run.ensures.refused_unread bytes (subst (λ (q : List ℕ). g.F.Files.contents c.args.files.now q ≡ Some bytes) (sym (c.as_str-2.ensures.value ∙ same)) told) m

pub returns-clause-long_unread : goal.returns-clause-long_unread
returns-clause-long_unread g c file bytes words told long =
    let both = pair-is _ (string_bytes {Z = Global}) c.args.words.now c.word-item.result c.file-item.result c.in-len2.len_at_least c.in-len2.len_below c.word-item.is c.file-item.is in
    let same = second-is _ _ _ _ (sym both ∙ words) in
    c.run.ensures.long_unread bytes (subst (λ (q : List ℕ). g.F.Files.contents c.args.files.now q ≡ Some bytes) (sym (c.as_str-2.ensures.value ∙ same)) told) long

pub returns-clause-torn : goal.returns-clause-torn
returns-clause-torn g c four =
    let word : string_bytes c.word-item.result ≡ codes "run" = search rules in
    let both = pair-is _ (string_bytes {Z = Global}) c.args.words.now c.word-item.result c.file-item.result c.in-len2.len_at_least c.in-len2.len_below c.word-item.is c.file-item.is in
    let is = both ∙ ap (λ (q : List ℕ). q ∷ string_bytes c.file-item.result ∷ []) word ∙ ap (λ (q : List ℕ). codes "run" ∷ q ∷ []) (sym c.as_str-2.ensures.value) in
    elim (c.run.ensures.torn four) [
      | inl a ↦ inr (inl (a.0, record { file = c.as_str-2.result.now; run = is; holds = a.1 }, a.2, a.3, a.4, a.5))
      | inr b ↦ inr (inr (c.as_str-2.result.now, is, b))
    ]

pub returns-clause-memory : goal.returns-clause-memory
returns-clause-memory g c five =
    let word : string_bytes c.word-item.result ≡ codes "run" = search rules in
    let both = pair-is _ (string_bytes {Z = Global}) c.args.words.now c.word-item.result c.file-item.result c.in-len2.len_at_least c.in-len2.len_below c.word-item.is c.file-item.is in
    let is = both ∙ ap (λ (q : List ℕ). q ∷ string_bytes c.file-item.result ∷ []) word ∙ ap (λ (q : List ℕ). codes "run" ∷ q ∷ []) (sym c.as_str-2.ensures.value) in
    elim (c.run.ensures.memory five) [
      | inl a ↦ inl a
      | inr b ↦ inr (c.as_str-2.result.now, is, b)
    ]
