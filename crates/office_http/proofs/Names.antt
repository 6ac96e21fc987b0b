-- The names of other crates, and of this one's definitions, that the proofs of this crate use. A file takes them by one import.
pub use Rattle.office_base.specs.Faults.{HasRisen}
pub use Rattle.office_base.specs.Joined.{outstanding, paid_under}
pub use Rattle.office_base.specs.Parents.{notice_of_envelope}
pub use Rattle.office_base.specs.Rules.{first_of}
pub use Rattle.office_base.specs.Shelves.{Meaning}
pub use Rattle.office_base.specs.States.{is_opened}
pub use Rattle.office_base.specs.Tables.{Tables, after_puts, envelope_at, envelopes_of_notice, line_at, lots_of_notice, notice_at, security_at, contract_at, performance_at, awards_of_notice, entries_of_contract, late_at, securities_of_notice, no_tables, tenderer_at, find_tenderer}
pub use Rattle.office_base.specs.declared.puts.Put.{Put}
pub use Rattle.office_base.specs.declared.records.AwardRow.{AwardRow}
pub use Rattle.office_base.specs.declared.records.ClockRow.{ClockRow}
pub use Rattle.office_base.specs.declared.records.CompiledRow.{CompiledRow}
pub use Rattle.office_base.specs.declared.records.ContractRow.{ContractRow}
pub use Rattle.office_base.specs.declared.records.EntryRow.{EntryRow}
pub use Rattle.office_base.specs.declared.records.EnvelopeRow.{EnvelopeRow}
pub use Rattle.office_base.specs.declared.records.LateRow.{LateRow}
pub use Rattle.office_base.specs.declared.records.LineRow.{LineRow}
pub use Rattle.office_base.specs.declared.records.LotRow.{LotRow}
pub use Rattle.office_base.specs.declared.records.NoticeRow.{NoticeRow}
pub use Rattle.office_base.specs.declared.records.PerformanceRow.{PerformanceRow}
pub use Rattle.office_base.specs.declared.records.SecurityRow.{SecurityRow}
pub use Rattle.office_base.specs.declared.records.TendererRow.{TendererRow}
pub use Rattle.office_commands.specs.Callers.{is_by}
pub use Rattle.office_commands.specs.Queries.{query_kind_of}
pub use Rattle.office_commands.specs.Rights.{is_clerk, may_look}
pub use Rattle.office_commands.specs.declared.command.Caller.{Caller}
pub use Rattle.office_commands.specs.declared.command.Caller.TheVariants.{Clerk, Tenderer}
pub use Rattle.office_commands.specs.declared.command.QueryKind.{QueryKind}
pub use Rattle.office_commands.specs.declared.commands.Command.{Command}
pub use Rattle.office_commands.specs.declared.commands.Command.TheVariants.{Modify}
pub use Rattle.office_commands.specs.declared.queries.Query.{Query}
pub use Rattle.office_desk.specs.Callers.{caller_of, clerk_with_key, is_clerk_name, names_no_tenderer, tenderer_with_key, fits_key, tenderer_named}
pub use Rattle.office_desk.specs.Desks.{DeskOf}
pub use Rattle.office_desk.specs.Steps.{no_packages, IsSeen, Needs, OfficeIsKept}
pub use Rattle.office_http.specs.Answering.{KeepsMeant, NeedsMeant, WritesMeant, answer_bytes, is_accepted, is_done, reply_to_meant, seen_as, tables_after, tables_left, told_as, unavailable_text, Held, IsAnswered, IsWholeAfter, LeftAfter, StandsAs, StopsAfter, meant_in, office_answers, GivesWhole, IsRefusedText, ShowsMeant, ChangesOnlyAccepting, IsTold, held_by}
pub use Rattle.office_http.specs.AtSight.{TellsAtSight, refused_at_sight, is_known_at_sight, refused_by_route, refused_to}
pub use Rattle.office_http.specs.Certain.{is_found, refusal_meant, takes_none}
pub use Rattle.office_http.specs.Credentials.{credentials_of}
pub use Rattle.office_http.specs.Inside.Meant.{CanBeMeant, Answered, HoldsStanding, AnswersMeant, IsCertain}
pub use Rattle.office_http.specs.Joined.{RequestsAreKept, StepsAreKept, joined_meant, accepted_steps, joined_with}
pub use Rattle.office_http.specs.Meaning.{meant, meant_asked, meant_at, meant_by, who, Meant, Refuses, Gives, Sees}
pub use Rattle.office_http.specs.Response.{response_of, IsShortNumber, allow_field, challenge_field, head_start, json, phrase_of, refusal_body, what_member}
pub use Rattle.office_http.specs.Sealed.{AlikeTo, AnsweredAlikeUntil, AnsweredRunsAreAlike, AnsweredSealsAreKept, AreAlike, MeaningsReadTenderers, MeansSame, SameSteps, meant_opens}
pub use Rattle.office_http.specs.Stops.{LeftBySteps, StandsWatched, StopsBy, Watched, office_now, watched_answers}
pub use Rattle.office_http.specs.declared.reply.Reply.TheVariants.{Json, Text}
pub use Rattle.office_machine.specs.Accounts.{AccountsAreKept}
pub use Rattle.office_machine.specs.Evaluation.{evaluated_lot, evaluation_told}
pub use Rattle.office_machine.specs.Fates.{TendersAreKept, SecuritiesAreKept, PerformancesAreKept, received_at, fate_of_tender}
pub use Rattle.office_machine.specs.Machine.{refusal_of, Given, IsRegistered, CanBeGiven, Reaches, done, may_give, reply_for, tests_for, time_of, Means, with_merges}
pub use Rattle.office_machine.specs.MergesApart.{FatesReadNoMerges, RefusalsReadNoMerges, RepliesReadNoMerges, bare, beside}
pub use Rattle.office_machine.specs.OfficeMeans.{office_readings}
pub use Rattle.office_machine.specs.Readings.{Readings}
pub use Rattle.office_machine.specs.Replies.{Reply, Tender, Security, PerformanceSeen, Minutes, modify_reply, EvaluationSeen, ContractSeen}
pub use Rattle.office_machine.specs.Requests.{reply_by, accepted_by, AreRequests, Asks, Demand, Request, all_accepted, accepted_with, office_after, office_by, reply_to}
pub use Rattle.office_machine.specs.Seals.{AlikeUntil, DifferingAreGone, KnowAlike, SameButSeals, ToldAlike, bytes_of, is_gone, is_opening, never, opens_it}
pub use Rattle.office_machine.specs.Sights.{Packages, is_read_envelope, line_told, minuted, minutes_told, package_told, register_told, security_told, performance_told, shown, tender_told, contract_told, own_tenders_told, securities_told, terms_told}
pub use Rattle.office_machine.specs.Worlds.{Modified, Presented, Same, SameBut, ChosenTender}
pub use Rattle.office_plans.specs.Asking.{given}
pub use Rattle.office_plans.specs.Plans.{Plan}
pub use Rattle.office_plans.specs.Published.{takes_memory, IsPlan, IsPut, accepted_reply}
pub use Rattle.office_plans.specs.Replies.{text_of, reply_text}
pub use Rattle.office_publications.specs.Keeping.{KeepsItsReleases, KeepsReleases, KeptStepsReach, ReleasesStayKept, next_with_merges}
pub use Rattle.office_publications.specs.MergesApart.{KeptStepsReadNoMerges, PublishedLooksReadNoMerges}
pub use Rattle.office_publications.specs.Packages.{packages}
pub use Rattle.office_publications.specs.Publishing.{publishing}
pub use Rattle.office_publications.specs.Sealed.{PublishedRunsAreAlike, PublishedSealsAreKept}
pub use Rattle.office_publications.specs.Standing.{office_kept, IsReached}
pub use Rattle.office_requests.specs.Asking.{CanBeAsked, WhatIsAskedCanBeGiven, asked_by_route, asked_by, is_read_at_once, may_ask}
pub use Rattle.office_requests.specs.Parameters.{query_of}
pub use Rattle.office_requests.specs.Routing.{routed}
pub use Rattle.office_requests.specs.declared.asked.Asked.{Asked}
pub use Rattle.office_requests.specs.declared.asked.Asked.TheVariants.{Does}
pub use Rattle.office_requests.specs.declared.route.Allow.{Allow}
pub use Rattle.office_requests.specs.declared.route.Allow.TheVariants.{Post}
pub use Rattle.office_requests.specs.declared.route.Route.{Route}
pub use Rattle.office_values.specs.Fields.{is_id}
pub use Rattle.office_values.specs.Refusals.{Named, Record, field_name, name_of_refusal, number_of_refusal, status_of_refusal, subject_of_refusal, thing_name}
pub use Rattle.office_values.specs.declared.refusal.Field.{Field}
pub use Rattle.office_values.specs.declared.refusal.Refusal.{Refusal}
pub use Rattle.office_values.specs.declared.refusal.Refusal.TheVariants.{Forbidden, Unavailable, BadHead, TooLong, Coding, NoRoute, WrongMethod, BadKey, BadBody, NoSuch, Exists, NotYourTender, DeadlinePassed, DeadlineEarlier, NotOpenForTenders, AlreadyPresented, SecurityMissing, SecurityTooSmall, SecurityNotAsked, NotSealed, TooEarlyToOpen, AlreadyOpened, NotOpened, AlreadyDecided, NotAllExamined, Expired, Standstill, InsufficientFunds, MoreThanOutstanding, ContractEnded, NothingToCancel, LimitReached}
pub use Rattle.office_values.specs.declared.refusal.Thing.{Thing}
pub use Rattle.office_values.specs.declared.refusal.What.{What}
pub use Rattle.office_values.specs.declared.refusal.What.TheVariants.{Name, Row}
pub use Rattle.office_values.specs.declared.settings.Publisher.{Publisher}
pub use Rattle.office_values.specs.declared.settings.Settings.{Settings}
pub use Rattle.office_wire.specs.Blocks.{Block}
pub use Rattle.office_wire.specs.Counting.{ReaderView}
pub use Rattle.office_wire.specs.Request.{RequestView}
pub use Rattle.office_wire.specs.Runs.{Ran, Served, Step, office_left, Answers, AreSteps, CutsAnyRefusal, CutsRefusal, CutsReply, Ends, HasTold, IsResponse, Serves, written}
pub use Rattle.office_wire.specs.Sending.{IsPrefix}
pub use Rattle.office_wire.specs.Short.{FitsBehind}
pub use Rattle.office_wire.specs.declared.fault.ReadFault.{ReadFault}
pub use Rattle.office_wire.specs.declared.fault.RunFault.{RunFault}
pub use Rattle.std.proofs.Common.{Option, Result, Ok, Err, ◌≡◌, ℕ, ◌⊎◌, inl, inr, Bool, true, false, not, ◌||◌, if◌then◌else◌, List, Some, None, refl, sym, ap, ◌∙◌, subst, ◌&&◌, true≢false, ◌+◌, ◌≤◌, ◌++◌, length, arith, length-append, [], ◌∷◌, append_assoc, append-nil, ◌-◌, take, drop, is_some, vec_len, rules}
pub use Rattle.std.proofs.Math.Seq.{drop-append_seam, take-append_seam}
pub use Rattle.std.proofs.lemmas.Fmt.{length-decimal-le}
pub use Rattle.std.proofs.lemmas.Option.{IfSome_then}
unfoldable pub use Rattle.std.specs.Fmt.{digits}
pub use Rattle.std.specs.Prelude.{IfOk, option_map, is_none, codes, decimal, ⊤, cond, map, filter, IsSome}
pub use Rattle.std.specs.Result.{result_err}
pub use Rattle.tender_core.specs.Rules.Modify.{modify_tests}
