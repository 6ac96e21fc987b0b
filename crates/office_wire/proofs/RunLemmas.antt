-- The facts that a loop over blocks keeps from step to step, and its end, for any answers.
use Rattle.office_wire.proofs.Names.{◌≡◌, ℕ, ◌+◌, ◌<◌, ◌⊎◌, inl, inr, true, List, [], ◌∷◌, ◌++◌, length, Option, Some, None, Result, Ok, Err, refl, sym, ap, subst, arith, ◌∙◌, append_assoc, length-append, append-nil, map-append, IfSome_then, ⊤, IfSome, Appends, Keeps, IsWellFormed, ReaderView, IsRequest, HasNoWhole, IsCutRequest, IsCutShort, Block, HasLine, HasNoLine, IsBlock, AreBlocks, IsCutBlock, Answers, AreSteps, Ends, HasTold, Step, blocks_of, written, office_left, Ran, Served, RunFault}
use Rattle.office_wire.specs.declared.fault.RunFault.TheVariants as ends
use Rattle.office_wire.proofs.SendLemmas.{appends_more, appends_keep}
use Rattle.office_wire.proofs.BlockLemmas.{short_line, same_line}

-- ---- one step more

blocks_push : (bs : List Block) (input rest : List ℕ) (b : Block) (after : List ℕ) → AreBlocks input bs rest → IsBlock rest b after → AreBlocks input (bs ++ b ∷ []) after
blocks_push [] input rest b after p q = (after, subst (λ t. IsBlock t b after) (sym p) q, refl)
blocks_push (x ∷ bs) input rest b after p q = (p.0, p.1, blocks_push bs p.0 rest b after p.2 q)

pub written_push : {S : Type 0} (A : Answers S) (steps : List Step) (s : S) (x : Step) → written A s (steps ++ x ∷ []) ≡ written A s steps ++ A.reply x.busy (office_left A s steps) x.block
written_push A [] s x = append-nil (A.reply x.busy s x.block)
written_push A (y ∷ steps) s x =
    ap (λ (t : List ℕ). A.reply y.busy s y.block ++ t) (written_push A steps (A.after y.busy s y.block) x)
    ∙ sym (append_assoc (A.reply y.busy s y.block) (written A (A.after y.busy s y.block) steps) (A.reply x.busy (office_left A (A.after y.busy s y.block) steps) x.block))

-- the office after one step more
pub office_push : {S : Type 0} (A : Answers S) (steps : List Step) (s : S) (x : Step) → office_left A s (steps ++ x ∷ []) ≡ A.after x.busy (office_left A s steps) x.block
office_push A [] s x = refl
office_push A (y ∷ steps) s x = office_push A steps (A.after y.busy s y.block) x

-- the blocks of one step more
pub blocks_on : (steps : List Step) (x : Step) (input rest after end : List ℕ) → AreBlocks input (blocks_of steps) rest → HasLine rest x.block.moment after → IsRequest after x.block.request end → AreBlocks input (blocks_of (steps ++ x ∷ [])) end
blocks_on steps x input rest after end blocks line r =
    subst (λ bs. AreBlocks input bs end) (sym (map-append (λ (y : Step). y.block) steps (x ∷ []))) (blocks_push (blocks_of steps) input rest x.block end blocks (after, line, r))

-- the response to one step more was sent
pub sent_on : {S : Type 0} (A : Answers S) (steps : List Step) (s : S) (x : Step) (a b c : Option (List ℕ)) → Appends a b (written A s steps) → Appends b c (A.reply x.busy (office_left A s steps) x.block) → Appends a c (written A s (steps ++ x ∷ []))
sent_on A steps s x a b c before more =
    subst (Appends a c) (sym (written_push A steps s x)) (appends_more a b c (written A s steps) (A.reply x.busy (office_left A s steps) x.block) before more)

-- the number of steps after one step more
pub count_on : (steps : List Step) (x : Step) (n : ℕ) → n ≡ length steps → n + 1 ≡ length (steps ++ x ∷ [])
count_on steps x n e = let a = length-append steps (x ∷ []) in omega arith

-- ---- reading that stopped

no_block_short : (part : List ℕ) (b : Block) (after : List ℕ) → length part < 24 → IsBlock part b after → ⊥
no_block_short part b after few x = short_line part b.moment x.0 few x.1

no_block_request : (line part : List ℕ) (b : Block) (after : List ℕ) → length line ≡ 24 → HasNoWhole part → IsBlock (line ++ part) b after → ⊥
no_block_request line part b after len none x =
    let same = same_line line part b.moment x.0 len x.1 in
    none b.request after (subst (λ t. IsRequest t b.request after) (sym same.1) x.2)

-- reading stopped inside a line
pub cut_line : (rest : List ℕ) (now : Option (List ℕ)) → IsCutShort rest now 24 → IsCutBlock rest now
cut_line rest now x = record { part = x.part; rest = x.rest; now_is = x.now_is; parts = x.parts; none = λ b after i. no_block_short x.part b after x.few i }

-- reading stopped inside a request
pub cut_request : (rest after : List ℕ) (moment : ℕ) (now : Option (List ℕ)) → HasLine rest moment after → IsCutRequest after now → IsCutBlock rest now
cut_request rest after moment now line x = record {
  part = line.line ++ x.part;
  rest = x.rest;
  now_is = x.now_is;
  parts = line.whole ∙ (ap (λ (t : List ℕ). line.line ++ t) x.parts ∙ sym (append_assoc line.line x.part x.rest));
  none = λ b end i. no_block_request line.line x.part b end line.is.long x.none i;
}

-- reading stopped where a block begins
pub cut_none : (rest : List ℕ) (now : Option (List ℕ)) → now ≡ Some rest → IsCutBlock rest now
cut_none rest now e = record { part = []; rest = rest; now_is = e; parts = refl; none = λ b after i. no_block_short [] b after (omega arith) i }

-- ---- how runs end

-- a fact of the bytes that came, if they are known
pub if_known : {A : Type 0} {P : A → Type 0} (known : Option A) → ((x : A) → known ≡ Some x → P x) → IfSome known P
if_known None so = tt
if_known (Some x) so = so x refl

-- one step more
pub steps_push : {S : Type 0} (A : Answers S) (steps : List Step) (s : S) (x : Step) → AreSteps A s steps → IsWellFormed x.block.request
    → (x.busy ≡ true → A.may_be_busy (office_left A s steps) x.block ≡ true) → AreSteps A s (steps ++ x ∷ [])
steps_push A [] s x all one may = (one, may, tt)
steps_push A (y ∷ steps) s x all one may = (all.0, all.1, steps_push A steps (A.after y.busy s y.block) x all.2 one may)

-- the blocks of the steps were read, and the bytes after them are left
pub record HasRead (input : List ℕ) (steps : List Step) (now : Option (List ℕ)) : Type 0 where
  pub rest : List ℕ
  pub now_is : now ≡ Some rest
  pub blocks : AreBlocks input (blocks_of steps) rest

module _ {S : Type 0} (A : Answers S) (s : S) (steps : List Step) where
  -- no line was read
  pub told_no_line : (e : RunFault) → (e ≡ ends.BadBlock) ⊎ (e ≡ ends.Read) → HasTold A (Err e) s steps (written A s steps)
  told_no_line e (inl is) = subst (λ (f : RunFault). HasTold A (Err f) s steps (written A s steps)) (sym is) refl
  told_no_line e (inr is) = subst (λ (f : RunFault). HasTold A (Err f) s steps (written A s steps)) (sym is) refl

  pub ends_no_line : (e : RunFault) (rest : List ℕ) (now : Option (List ℕ)) → (e ≡ ends.BadBlock) ⊎ (e ≡ ends.Read) → (e ≡ ends.BadBlock → HasNoLine rest)
      → (e ≡ ends.Read → IsCutShort rest now 24) → Ends A (Err e) s steps rest now (written A s steps)
  ends_no_line e rest now (inl is) bad cut = subst (λ (f : RunFault). Ends A (Err f) s steps rest now (written A s steps)) (sym is) (bad is, refl)
  ends_no_line e rest now (inr is) bad cut = subst (λ (f : RunFault). Ends A (Err f) s steps rest now (written A s steps)) (sym is) (cut_line rest now (cut is), refl)

  -- the writer couldn't flush
  told_unflushed : (result : Result ℕ RunFault) (told : List ℕ) → HasTold A result s steps told → HasTold A (Err ends.Write) s steps told
  told_unflushed (Ok n) told it = inr (inr it.1)
  told_unflushed (Err ends.BadBlock) told it = inr (inr it)
  told_unflushed (Err ends.Read) told it = inr (inr it)
  told_unflushed (Err ends.LostPlace) told (why, was_read, is) =
      inr (inl (record { why = why; was_read = was_read; part = A.refusal why; front = ([], sym (append-nil (A.refusal why))); told_is = is }))
  told_unflushed (Err ends.Write) told it = it

  ends_unflushed : (result : Result ℕ RunFault) (rest : List ℕ) (now : Option (List ℕ)) (told : List ℕ) → Ends A result s steps rest now told
      → Ends A (Err ends.Write) s steps rest now told
  ends_unflushed (Ok n) rest now told it = inr (inr it.2)
  ends_unflushed (Err ends.BadBlock) rest now told it = inr (inr it.1)
  ends_unflushed (Err ends.Read) rest now told it = inr (inr it.1)
  ends_unflushed (Err ends.LostPlace) rest now told (why, lost, is) =
      inr (inl (record { why = why; lost = lost; part = A.refusal why; front = ([], sym (append-nil (A.refusal why))); told_is = is }))
  ends_unflushed (Err ends.Write) rest now told it = it

  module _ (came left : ReaderView) (a b c : Option (List ℕ)) where
    -- flushing keeps the bytes that were sent
    pub ran_kept : (result : Result ℕ RunFault) → Ran A result came left s steps a b → Keeps b c → Ran A result came left s steps a c
    ran_kept result it keeps =
        record { steps_are = it.steps_are; few = it.few; told = it.told; sent = appends_keep a b c it.told it.sent keeps; told_so = it.told_so; known = it.known }

    pub ran_unflushed : (result : Result ℕ RunFault) → Ran A result came left s steps a b → Keeps b c → Ran A (Err ends.Write) came left s steps a c
    ran_unflushed result it keeps = record {
      steps_are = it.steps_are;
      few = it.few;
      told = it.told;
      sent = appends_keep a b c it.told it.sent keeps;
      told_so = told_unflushed result it.told it.told_so;
      known = IfSome_then came.remaining it.known (λ input read. (read.0, read.1, ends_unflushed result read.0 left.remaining it.told read.2));
    }

-- ---- one request

module _ {S : Type 0} (A : Answers S) (came now : Option (List ℕ)) (moment : ℕ) (s : S) (steps : List Step) (a b c : Option (List ℕ)) where
  -- flushing keeps the bytes that were sent
  pub served_kept : (result : Result ⊤ RunFault) → Served A result came now moment s steps a b → Keeps b c → Served A result came now moment s steps a c
  served_kept result it keeps = record { one = it.one; steps_are = it.steps_are; told = it.told; sent = appends_keep a b c it.told it.sent keeps; served = it.served }

  -- one request was served, but the writer couldn't flush
  pub served_unflushed : (done : ⊤) → Served A (Ok done) came now moment s steps a b → Keeps b c → Served A (Err ends.Write) came now moment s steps a c
  served_unflushed done it keeps = record {
    one = it.one;
    steps_are = it.steps_are;
    told = it.told;
    sent = appends_keep a b c it.told it.sent keeps;
    served = (it.told, it.served, ([], sym (append-nil it.told)));
  }
