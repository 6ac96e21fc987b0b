-- The release when a winner fails to sign.
use Rattle.std.specs.Prelude.{List, [], ◌∷◌, codes}
use Rattle.ocds_release.specs.Objects.{Entry, array_of}
use Rattle.ocds_release.specs.Awards.{ended_award}
use Rattle.ocds_release.specs.Releases.{tags}
use Rattle.ocds_release.specs.declared.event.AwardFailed.{AwardFailed}

-- tag `awardCancellation`, and the award that ends
abbrev pub fail_body : AwardFailed → List Entry
fail_body e =
    tags (codes "awardCancellation" ∷ [])
    ∷ (codes "awards", array_of (ended_award e.award ∷ []))
    ∷ []
