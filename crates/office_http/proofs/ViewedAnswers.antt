-- A run or a request that one office answers is also answered by another office that is a view of it.
use Rattle.office_http.proofs.Names.{◌≡◌, ℕ, ◌⊎◌, inl, inr, Bool, List, [], ◌∷◌, ◌++◌, Option, Result, Ok, Err, refl, sym, ap, ◌∙◌, subst, IfSome_then, ⊤, Block, ReaderView, Answers, AreSteps, CutsAnyRefusal, CutsRefusal, CutsReply, Ends, HasTold, IsResponse, Ran, Served, Serves, Step, office_left, written, IsPrefix, ReadFault, RunFault}
use Rattle.office_wire.specs.declared.fault.RunFault.TheVariants as ends

module _ {X Y : Type 0} (A : Answers X) (B : Answers Y) (f : X → Y)
    (replies : (busy : Bool) (x : X) (b : Block) → A.reply busy x b ≡ B.reply busy (f x) b)
    (goes : (busy : Bool) (x : X) (b : Block) → f (A.after busy x b) ≡ B.after busy (f x) b)
    (may : (x : X) (b : Block) → A.may_be_busy x b ≡ B.may_be_busy (f x) b)
    (refuses : (why : ReadFault) → A.refusal why ≡ B.refusal why) where
  written_as : (x : X) (steps : List Step) → written A x steps ≡ written B (f x) steps
  written_as x [] = refl
  written_as x (y ∷ steps) =
      ap (λ (told : List ℕ). told ++ written A (A.after y.busy x y.block) steps) (replies y.busy x y.block)
      ∙ ap (λ (told : List ℕ). B.reply y.busy (f x) y.block ++ told)
      (written_as (A.after y.busy x y.block) steps ∙ ap (λ (z : Y). written B z steps) (goes y.busy x y.block))

  pub left_as : (x : X) (steps : List Step) → f (office_left A x steps) ≡ office_left B (f x) steps
  left_as x [] = refl
  left_as x (y ∷ steps) = left_as (A.after y.busy x y.block) steps ∙ ap (λ (z : Y). office_left B z steps) (goes y.busy x y.block)

  steps_as : (x : X) (steps : List Step) → AreSteps A x steps → AreSteps B (f x) steps
  steps_as x [] all = tt
  steps_as x (y ∷ steps) all = (
    all.0,
    λ on. sym (may x y.block) ∙ all.1 on,
    subst (λ (z : Y). AreSteps B z steps) (goes y.busy x y.block) (steps_as (A.after y.busy x y.block) steps all.2),
  )

  -- ---- a run

  cuts_reply : (x : X) (steps : List Step) (told : List ℕ) → CutsReply A x steps told → CutsReply B (f x) steps told
  cuts_reply x steps told it = record {
    earlier = it.earlier;
    last = it.last;
    are = it.are;
    part = it.part;
    front = subst (λ (reply : List ℕ). IsPrefix it.part reply)
        (replies it.last.busy (office_left A x it.earlier) it.last.block ∙ ap (λ (z : Y). B.reply it.last.busy z it.last.block) (left_as x it.earlier))
        it.front;
    told_is = it.told_is ∙ ap (λ (earlier : List ℕ). earlier ++ it.part) (written_as x it.earlier);
  }

  cuts_refusal : (x : X) (steps : List Step) (rest told : List ℕ) → CutsRefusal A x steps rest told → CutsRefusal B (f x) steps rest told
  cuts_refusal x steps rest told it = record {
    why = it.why;
    lost = it.lost;
    part = it.part;
    front = subst (λ (text : List ℕ). IsPrefix it.part text) (refuses it.why) it.front;
    told_is = it.told_is ∙ ap (λ (earlier : List ℕ). earlier ++ it.part) (written_as x steps);
  }

  ends_as : (result : Result ℕ RunFault) (x : X) (steps : List Step) (rest : List ℕ) (now : Option (List ℕ)) (told : List ℕ)
      → Ends A result x steps rest now told → Ends B result (f x) steps rest now told
  ends_as (Ok n) x steps rest now told (none, count, is) = (none, count, is ∙ written_as x steps)
  ends_as (Err ends.BadBlock) x steps rest now told (line, is) = (line, is ∙ written_as x steps)
  ends_as (Err ends.LostPlace) x steps rest now told (why, lost, is) = (
    why,
    lost,
    is
        ∙ ap (λ (earlier : List ℕ). earlier ++ A.refusal why) (written_as x steps)
        ∙ ap (λ (text : List ℕ). written B (f x) steps ++ text) (refuses why),
  )
  ends_as (Err ends.Read) x steps rest now told (cut, is) = (cut, is ∙ written_as x steps)
  ends_as (Err ends.Write) x steps rest now told (inl cut) = inl (cuts_reply x steps told cut)
  ends_as (Err ends.Write) x steps rest now told (inr (inl cut)) = inr (inl (cuts_refusal x steps rest told cut))
  ends_as (Err ends.Write) x steps rest now told (inr (inr is)) = inr (inr (is ∙ written_as x steps))

  cuts_any_refusal : (x : X) (steps : List Step) (told : List ℕ) → CutsAnyRefusal A x steps told → CutsAnyRefusal B (f x) steps told
  cuts_any_refusal x steps told it = record {
    why = it.why;
    was_read = it.was_read;
    part = it.part;
    front = subst (λ (text : List ℕ). IsPrefix it.part text) (refuses it.why) it.front;
    told_is = it.told_is ∙ ap (λ (earlier : List ℕ). earlier ++ it.part) (written_as x steps);
  }

  told_as_well : (result : Result ℕ RunFault) (x : X) (steps : List Step) (told : List ℕ) → HasTold A result x steps told → HasTold B result (f x) steps told
  told_as_well (Ok n) x steps told (count, is) = (count, is ∙ written_as x steps)
  told_as_well (Err ends.BadBlock) x steps told is = is ∙ written_as x steps
  told_as_well (Err ends.LostPlace) x steps told (why, was_read, is) = (
    why,
    was_read,
    is
        ∙ ap (λ (earlier : List ℕ). earlier ++ A.refusal why) (written_as x steps)
        ∙ ap (λ (text : List ℕ). written B (f x) steps ++ text) (refuses why),
  )
  told_as_well (Err ends.Read) x steps told is = is ∙ written_as x steps
  told_as_well (Err ends.Write) x steps told (inl cut) = inl (cuts_reply x steps told cut)
  told_as_well (Err ends.Write) x steps told (inr (inl cut)) = inr (inl (cuts_any_refusal x steps told cut))
  told_as_well (Err ends.Write) x steps told (inr (inr is)) = inr (inr (is ∙ written_as x steps))

  pub ran_as : (result : Result ℕ RunFault) (came rest : ReaderView) (x : X) (steps : List Step) (before after : Option (List ℕ))
      → Ran A result came rest x steps before after → Ran B result came rest (f x) steps before after
  ran_as result came rest x steps before after it = record {
    steps_are = steps_as x steps it.steps_are;
    few = it.few;
    told = it.told;
    sent = it.sent;
    told_so = told_as_well result x steps it.told it.told_so;
    known = IfSome_then came.remaining it.known (λ input read. (read.0, read.1, ends_as result x steps read.0 rest.remaining it.told read.2));
  }

  -- ---- one request

  module _ (came now : Option (List ℕ)) (x : X) where
    response_as : (steps : List Step) (text : List ℕ) → IsResponse A came now x steps text → IsResponse B came now (f x) steps text
    response_as [] text (why, was_read, is, refused) = (why, was_read, is ∙ refuses why, refused)
    response_as (y ∷ more) text (is, read) = (is ∙ replies y.busy x y.block, read)

    serves_as : (result : Result ⊤ RunFault) (steps : List Step) (told : List ℕ) → Serves A result came now x steps told → Serves B result came now (f x) steps told
    serves_as (Ok done) steps told served = response_as steps told served
    serves_as (Err ends.Write) steps told (text, served, front) = (text, response_as steps text served, front)
    serves_as (Err ends.Read) steps told served = served
    serves_as (Err ends.BadBlock) steps told served = absurd served
    serves_as (Err ends.LostPlace) steps told served = absurd served

    pub served_as : (result : Result ⊤ RunFault) (moment : ℕ) (steps : List Step) (before after : Option (List ℕ)) → Served A result came now moment x steps before after
        → Served B result came now moment (f x) steps before after
    served_as result moment steps before after it =
        record { one = it.one; steps_are = steps_as x steps it.steps_are; told = it.told; sent = it.sent; served = serves_as result steps it.told it.served }
