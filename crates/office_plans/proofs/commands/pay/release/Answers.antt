use Rattle.office_plans.proofs.Names.{◌≡◌, Option, Some, option_map, max, ◌∙◌, ap, sym, Pay, notice_of_contract, contract_at, tenderer_at, ContractRow, TendererRow, PayRows, Event, Party, name_in, pay_event, given_by}
use Rattle.ocds_release.specs.declared.event.Event.TheVariants as events
use Rattle.office_plans.proofs.Maybe.{if_ok}
use Rattle.office_plans.proofs.commands.pay.release.Goals as goal

pub returns-clause-looks : goal.returns-clause-looks
returns-clause-looks g c =
    let looked = c.in_ok-tenderer.ensures.0 in (
      looked.0,
      λ honest s held.
          let a = c.args in
          let row : ContractRow = a.contract.now in
          let tenderer : c.in_ok-tenderer.tenderer ≡ tenderer_at row.tenderer s = looked.1 honest s held in
          let paid_to : Party → Event = λ p. events.Pay (record { notice = row.notice; contract = row.contract; entry = a.entry; amount = a.amount; payee = p }) in
          let named : Option TendererRow → Party = λ t. record { id = row.tenderer; name = name_in t } in
          let payee : c.in-Some.payee ≡ named (tenderer_at row.tenderer s) = c.in-Some.ensures.found ∙ ap named tenderer in
          if_ok c.make_release.result c.make_release.ensures.release
          (λ made holds number are here.
          let found : contract_at number s ≡ Some row = sym (ap (λ (rows : PayRows). rows.contract) are) ∙ here in
          holds (given_by a.asking.now s (Pay number a.entry a.amount))
          (ap (option_map (λ (r : ContractRow). pay_event s r a.entry a.amount)) found ∙ sym (ap (λ p. Some (paid_to p)) payee))
          (ap (option_map (λ (r : ContractRow). r.notice)) found)
          (ap (λ (rows : PayRows). rows.notice) are ∙ ap (λ (r : Option ContractRow). notice_of_contract r s) found)
          (c.time-t.ensures ∙ ap (λ (rows : PayRows). max a.asking.now.moment rows.clock.moment) are)),
    )
