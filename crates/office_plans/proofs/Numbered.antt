-- The number of a release that was made, as the reply to its command returns it.
use Rattle.office_plans.proofs.Names.{◌≡◌, ℕ, ◌+◌, List, Option, Some, None, option_map, ◌∙◌, ap, sym, Publisher, notice_at, AwardRow, ContractRow, releases_in, Given, published_for, release_of, release_of_award, release_of_contract, IsReleased, Released}

module _ {publisher : Publisher} {x : Given} {r : Released} (made : IsReleased publisher x r) where
  pub numbered_notice : (notice : List ℕ) → published_for x.before x.command ≡ Some notice → r.seq ≡ release_of x.before.notices notice
  numbered_notice notice is =
      let found : Some r.notice ≡ Some notice = sym made.for_notice ∙ is in
      let same : r.notice ≡ notice = cc in
      made.next ∙ ap (λ n. releases_in (notice_at n x.before) + 1) same

  pub numbered_award : (o : Option AwardRow) → published_for x.before x.command ≡ option_map (λ (a : AwardRow). a.notice) o → r.seq ≡ release_of_award o x.before.notices
  numbered_award None is = let no : None ≡ Some r.notice = sym is ∙ made.for_notice in absurd cc
  numbered_award (Some a) is = numbered_notice a.notice is

  pub numbered_contract : (o : Option ContractRow) → published_for x.before x.command ≡ option_map (λ (c : ContractRow). c.notice) o → r.seq ≡ release_of_contract o x.before.notices
  numbered_contract None is = let no : None ≡ Some r.notice = sym is ∙ made.for_notice in absurd cc
  numbered_contract (Some c) is = numbered_notice c.notice is
