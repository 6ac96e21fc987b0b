-- The tests of identifiers and lines agree with the facts that their types give.
use Rattle.procure_config.proofs.Names.{◌≡◌, ℕ, List, Bool, true, false, Option, Some, None, Result, Ok, Err, IfSome, IfNone, IfOk, refl, arith, nat_tests, AllPass-from_list_all, list_all-from_AllPass, IsUtf8-from_is_utf8, is_utf8-from_IsUtf8, IsId, is_id_byte, IsTextLine, is_line_byte, is_id_text, is_line_text, if_passing}

id_passes : (text : List ℕ) → IsId text → is_id_text text ≡ true
id_passes text h =
    let plain = list_all-from_AllPass is_id_byte text h.plain in
    let low = h.not_empty in
    let high = h.short in
    grind (arith, nat_tests)

passes_id : (text : List ℕ) → is_id_text text ≡ true → IsId text
passes_id text h = record {
  not_empty = grind (arith, nat_tests);
  short = grind (arith, nat_tests);
  plain = AllPass-from_list_all is_id_byte text (grind (arith, nat_tests));
}

line_passes : (text : List ℕ) → IsTextLine text → is_line_text text ≡ true
line_passes text h =
    let plain = list_all-from_AllPass is_line_byte text h.plain in
    let utf8 = is_utf8-from_IsUtf8 text h.utf8 in
    let low = h.not_empty in
    let high = h.short in
    grind (arith, nat_tests)

passes_line : (text : List ℕ) → is_line_text text ≡ true → IsTextLine text
passes_line text h = record {
  not_empty = grind (arith, nat_tests);
  short = grind (arith, nat_tests);
  plain = AllPass-from_list_all is_line_byte text (grind (arith, nat_tests));
  utf8 = IsUtf8-from_is_utf8 text (grind (arith, nat_tests));
}

-- The value that is read, if its form is given as a fact.
kept : (test : List ℕ → Bool) (Form : List ℕ → Type 0) (text : List ℕ) → (Form text → test text ≡ true) → (test text ≡ true → Form text)
    → (r : Option (List ℕ)) → IfSome r (λ t. t ≡ text) → IfSome r (λ _. Form text) → IfNone r (¬ (Form text)) → r ≡ if_passing test (Some text)
kept test Form text passes form None found right none = by (test text) refl
  where
    by : (b : Bool) → test text ≡ b → None ≡ if_passing test (Some text)
    by true e = absurd (none (form e))
    by false e = rw e refl
kept test Form text passes form (Some t) found right none = rw (passes right, found) refl

pub id_kept : (text : List ℕ) (there : Option (List ℕ)) → Some text ≡ there → (r : Option (List ℕ)) → IfSome r (λ t. t ≡ text) → IfSome r (λ _. IsId text)
    → IfNone r (¬ (IsId text)) → r ≡ if_passing is_id_text there
id_kept text there e r found right none = rw (← e) (kept is_id_text IsId text (id_passes text) (passes_id text) r found right none)

pub line_kept : {E : Type 0} (text : List ℕ) (there : Option (List ℕ)) → Some text ≡ there → (r : Result (Option (List ℕ)) E) → IfOk r (λ l. IfSome l (λ t. t ≡ text))
    → IfOk r (λ l. IfSome l (λ _. IsTextLine text)) → IfOk r (λ l. IfNone l (¬ (IsTextLine text))) → IfOk r (λ l. l ≡ if_passing is_line_text there)
line_kept text there e (Ok l) found right none =
    rw (← e) (kept is_line_text IsTextLine text (line_passes text) (passes_line text) l found right none)
line_kept text there e (Err fault) found right none = tt
