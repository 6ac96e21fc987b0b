-- A release that a command publishes and the merge that it joins, added to the command's changes.
use Rattle.office_plans.proofs.Names.{◌≡◌, ℕ, ◌+◌, ◌-◌, true, false, List, ◌∷◌, [], ◌++◌, Option, Some, None, Result, Ok, Err, IfOk, IfErr, sym, ◌∙◌, ap, subst, inr, arith, append_assoc, ocid_text, Refusal, Unavailable, Publisher, notice_at, Put, Release, Compiled, ReleaseRow, releases_in, IsCommand, is_lacking, Given, effect, publication, publication_puts, puts_of, refusal_of, office_readings, CanBeFollowed, FollowsReleases, KeepsItsReleases, ReadsBack, has_last_release, has_release, kept_puts, merge_puts, merged_row, AreSoMany, HasMerge, publishing, Publication, Plan, IsPlanned, accepted_reply, IsKept, IsReleased, as_row, reply_text, Released}

before_next : (seq n : ℕ) → seq ≡ n + 1 → seq - 1 ≡ n
before_next seq n next = omega (arith, next)

-- The release comes after the last one of its notice, and it joins the merge.
pub follows : (publisher : Publisher) (x : Given) (r : Released) → IsReleased publisher x r → has_last_release r.notice (r.seq - 1) x.before ≡ true
    → has_release r.notice (r.seq - 1 + 1) x.before ≡ false → HasMerge (ocid_text publisher.prefix r.notice) r.notice x.before → AreSoMany r.notice (r.seq - 1) x.before → FollowsReleases publisher x
follows publisher x r released there new merge many notice is =
    let found : Some r.notice ≡ Some notice = sym released.for_notice ∙ is in
    let same : r.notice ≡ notice = cc in
    let number = before_next r.seq (releases_in (notice_at r.notice x.before)) released.next in
    let last = ap (λ k. has_last_release r.notice k x.before) (sym number) ∙ there in
    let next = ap (λ k. has_release r.notice (k + 1) x.before) (sym number) ∙ new in
    let counted = subst (λ (k : ℕ). AreSoMany r.notice k x.before) number many in
    subst (λ (n : List ℕ). CanBeFollowed publisher n x.before) same (record { last = last; next = next; merge = merge; counted = counted })

module _ (publisher : Publisher) (x : Given) (r : Released) (p : Publication) (released : IsReleased publisher x r) where
  abbrev puts_with : Option ReleaseRow → List Put
  puts_with o = (effect office_readings x ++ publication_puts o) ++ merge_puts x.before o

  -- The puts of the release and of its merge.
  abbrev both : List Put
  both = Release p.release ∷ Compiled p.merge ∷ []

  all_put : (puts all : List Put) → puts ≡ effect office_readings x → all ≡ puts ++ both → IsKept x.before r p → all ≡ kept_puts publisher x
  all_put puts all is are kept =
      let two : ReleaseRow → List Put = λ row. Release row ∷ Compiled (merged_row x.before row) ∷ [] in
      are ∙ ap (λ ps. ps ++ both) is
      ∙ ap (λ c. effect office_readings x ++ (Release p.release ∷ Compiled c ∷ [])) kept.merge
      ∙ ap (λ row. effect office_readings x ++ two row) kept.release
      ∙ sym (append_assoc (effect office_readings x) (Release (as_row r) ∷ []) (Compiled (merged_row x.before (as_row r)) ∷ []))
      ∙ ap puts_with (sym released.is)

  reads_back : IsKept x.before r p → (row : ReleaseRow) → publication (publishing publisher) x ≡ Some row → ReadsBack x.before row
  reads_back kept row is =
      let found : Some (as_row r) ≡ Some row = sym released.is ∙ is in
      let same : as_row r ≡ row = cc in
      subst (ReadsBack x.before) (kept.release ∙ same) kept.reads

  -- All but the merge is that of the specification, whatever the releases are.
  all_but : (puts all : List Put) → puts ≡ effect office_readings x → all ≡ puts ++ both → p.release ≡ as_row r
      → all ≡ puts_of (publishing publisher) x ++ (Compiled p.merge ∷ [])
  all_but puts all is are row =
      are ∙ ap (λ ps. ps ++ both) is
      ∙ ap (λ o. effect office_readings x ++ (Release o ∷ Compiled p.merge ∷ [])) row
      ∙ sym (append_assoc (effect office_readings x) (Release (as_row r) ∷ []) (Compiled p.merge ∷ []))
      ∙ ap (λ o. (effect office_readings x ++ publication_puts o) ++ (Compiled p.merge ∷ [])) (sym released.is)

  -- The plan has both puts, or it is `Unavailable` because there is too little memory.
  pub is_planned : IsCommand x.command → refusal_of x ≡ None → is_lacking x ≡ false → FollowsReleases publisher x → (puts : List Put) (text : List ℕ) → puts ≡ effect office_readings x
      → text ≡ reply_text (accepted_reply x) → (KeepsItsReleases x → IsKept x.before r p) → p.release ≡ as_row r → (result : Result Plan Refusal)
      → IfOk result (λ (q : Plan). q.puts ≡ puts ++ both) → IfOk result (λ (q : Plan). q.reply ≡ text) → IfErr result (λ why. why ≡ Unavailable)
      → IsPlanned publisher x result
  is_planned given allowed whole follows puts text is told kept row (Ok q) are reply none = record {
    given = given;
    allowed = allowed;
    whole = whole;
    follows = follows;
    put = λ keeps. record { puts = all_put puts q.puts is are (kept keeps); reads = reads_back (kept keeps) };
    effect = (p.merge ∷ [], all_but puts q.puts is are row);
    reply = reply ∙ told;
  }
  is_planned given allowed whole follows puts text is told kept row (Err why) are reply none = inr none
