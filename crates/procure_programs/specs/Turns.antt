-- How an office in a store is served, one connection after another, until its store is closed for good.
use mathlib.Core.Logic.{inl, inr}
use Rattle.std.specs.Prelude.{◌≡◌, ◌⊎◌, ⊤, ℕ, zero, suc, ◌<◌, ◌≤◌, Bool, true, false, List, [], ◌++◌, length, Option, Some, None, Result, Ok, Err, IsErrOf, IsTrue, OnOk}
use Rattle.std.specs.Result.{result_unwrap_or}
use Rattle.std.specs.declared.net.socket_addr.SocketAddrV4.{SocketAddrV4}
use Rattle.office_base.specs.Shelves.{Meaning}
use Rattle.office_base.specs.declared.shelf.ShelfFault.{ShelfFault}
use Rattle.office_base.specs.Shutting.{Standing, TellsShut}
use Rattle.office_desk.specs.Desks.{DeskOf}
use Rattle.office_wire.specs.Counting.{HasStopped, ReaderView}
use Rattle.office_wire.specs.Sending.{WriterView}
use Rattle.office_wire.specs.declared.fault.RunFault.{RunFault}
use Rattle.office_wire.specs.declared.fault.RunFault.TheVariants as ends
use Rattle.office_wire.specs.Runs.{Served, Step, office_left}
use Rattle.office_http.specs.Answering.{Held, StandsAs, office_answers}
use Rattle.office_http.specs.Runs.{IsServed, WentThrough}
use Rattle.procure_config.specs.declared.fault.ProgramFault.{ProgramFault}
use Rattle.procure_config.specs.declared.fault.ProgramFault.TheVariants.{Store, Input}
use Rattle.procure_programs.specs.Hosts.{HostEvents, Hosting, IsLoopbackAt, clock_moment}

-- How a connection ended, by its reader, if there was memory for a buffer, and its writer. After Ok the output is flushed. After a fault the writer failed, or
-- the reader failed or allows no more reads.
pub record EndsConnection (ended : Result ⊤ RunFault) (read : Option ReaderView) (written : WriterView) : Type 0 where
  pub flushed : OnOk ended (written.is_flushed ≡ true)
  pub cut : IsErrOf ended ends.Write → written.has_failed ≡ true
  pub stopped : IsErrOf ended ends.Read → (reader : ReaderView) × (read ≡ Some reader) × HasStopped reader

-- One request was served over a connection at this moment, and these bytes of it are left. The output is the response to the request, or the refusal of bytes that
-- aren't one. It is a beginning of this if the writer failed, and nothing if the reader failed. The desk then holds the office after the request.
abbrev pub AnswersConnection : {S : Type 0} → Meaning S → ℕ → Option (List ℕ) → Option (List ℕ) → Option (List ℕ) → DeskOf S → DeskOf S → Result ⊤ RunFault → Type 0
AnswersConnection M moment came before after old new result = (now : Option (List ℕ)) × IsServed M result came now moment old new before after

-- A connection was taken, then the clock was read, the request was answered at this moment, and the connection was closed. Only serving a connection gives the
-- value that says how it ended (`Ended`); `serve_connection`, clause `ended`, says when it can be a fault.
pub record ServesConnection {S T R W : Type 0} (N : Hosting T R W) (M : Meaning S) (before after : T) (old new : DeskOf S) : Type 0 where
  pub reader : R
  pub writer : W
  pub taken : T
  pub takes : N.events.takes before (Some (reader, writer)) taken
  pub nanos : ℕ
  pub told : T
  pub tells : N.events.tells taken (Some nanos) told
  pub ended : Result ⊤ RunFault
  pub left : W
  pub answers : AnswersConnection M (clock_moment nanos) (N.remaining reader) (N.contents writer) (N.contents left) old new ended
  pub honest : M.honest new.shelf → M.honest old.shelf
  pub closes : N.events.closes told left ended after

-- These are the steps of a connection that was served, from this office: the step of its request, if it had one.
abbrev pub AreOfConnection : {S T R W : Type 0} (N : Hosting T R W) (M : Meaning S) (before after : T) (old new : DeskOf S) → ServesConnection N M before after old new
    → Held → List Step → Type 0
AreOfConnection N M before after old new it h steps =
    Served office_answers it.ended (N.remaining it.reader) it.answers.0 (clock_moment it.nanos) h steps (N.contents it.writer) (N.contents it.left)

-- A connection was taken, and then the clock couldn't be read.
abbrev pub FindsNoClock : {T R W : Type 0} → HostEvents T R W → T → T → Type 0
FindsNoClock {T = T} {R = R} {W = W} E before after = (connection : R × W) × (taken : T) × E.takes before (Some connection) taken × E.tells taken None after

-- The next connection couldn't be taken, or it was served, or there was no clock to serve it by.
abbrev pub TakesOne : {S T R W : Type 0} → Hosting T R W → Meaning S → T → T → DeskOf S → DeskOf S → Result Bool ProgramFault → Type 0
TakesOne N M before after old new (Ok false) = N.events.takes before None after × (new ≡ old)
TakesOne N M before after old new (Ok true) = ServesConnection N M before after old new
TakesOne N M before after old new (Err Input) = FindsNoClock N.events before after × (new ≡ old)
TakesOne N M before after old new (Err _) = ⊥

-- The answer is that the store is closed for good. If there was no answer, nothing is known.
abbrev pub is_known_shut : Result Bool ShelfFault → Bool
is_known_shut answer = result_unwrap_or answer false

-- One connection was served. Then the store was asked whether it is closed for good, and this is its answer.
pub record ServesAndAsks {S T R W : Type 0} (N : Hosting T R W) (M : Meaning S) (store : Standing S) (before after : T) (old new : DeskOf S) (answer : Result Bool ShelfFault) : Type 0 where
  pub served : DeskOf S
  pub one : ServesConnection N M before after old served
  pub asked : TellsShut M store served.shelf new.shelf answer
  pub settings : new.settings ≡ served.settings

-- One connection couldn't be taken, or it was served and the store isn't known to be closed for good.
abbrev pub IsOneTurn : {S T R W : Type 0} → Hosting T R W → Meaning S → Standing S → T → T → DeskOf S → DeskOf S → Type 0
IsOneTurn N M store before after old new =
    (N.events.takes before None after × (new ≡ old))
    ⊎ ((answer : Result Bool ShelfFault) × ServesAndAsks N M store before after old new answer × (is_known_shut answer ≡ false))

-- This many connections, one after another.
abbrev pub GoesOnFor : {S T R W : Type 0} → Hosting T R W → Meaning S → Standing S → ℕ → T → T → DeskOf S → DeskOf S → Type 0
GoesOnFor N M store zero before after old new = (after ≡ before) × (new ≡ old)
GoesOnFor {S = S} {T = T} N M store (suc n) before after old new =
    (host : T) × (mid : DeskOf S) × GoesOnFor N M store n before host old mid × IsOneTurn N M store host after mid new

-- These are the steps of one turn: those of its connection, if one could be taken.
abbrev pub AreOfTurn : {S T R W : Type 0} (N : Hosting T R W) (M : Meaning S) (store : Standing S) (before after : T) (old new : DeskOf S) → IsOneTurn N M store before after old new
    → Held → List Step → Type 0
AreOfTurn N M store before after old new (inl none) h steps = steps ≡ []
AreOfTurn N M store before after old new (inr it) h steps = AreOfConnection N M before after old it.1.served it.1.one h steps

-- These are the steps of all turns, in their order.
abbrev pub AreOfTurns : {S T R W : Type 0} (N : Hosting T R W) (M : Meaning S) (store : Standing S) (n : ℕ) (before after : T) (old new : DeskOf S)
    → GoesOnFor N M store n before after old new → Held → List Step → Type 0
AreOfTurns N M store zero before after old new it h steps = steps ≡ []
AreOfTurns N M store (suc n) before after old new it h steps =
    (earlier : List Step) × (last : List Step) × (steps ≡ earlier ++ last)
    × AreOfTurns N M store n before it.0 old it.1 it.2 h earlier × AreOfTurn N M store it.0 after it.1 new it.3 (office_left office_answers h earlier) last

-- The end of serving if not all connections are taken. Either one more connection is served and then the store is known to be closed for good, or one is taken
-- for which the clock can't be read.
abbrev pub EndsBy : {S T R W : Type 0} → Hosting T R W → Meaning S → Standing S → ProgramFault → T → T → DeskOf S → DeskOf S → Type 0
EndsBy N M store Store before after old new =
    (answer : Result Bool ShelfFault) × ServesAndAsks N M store before after old new answer × IsTrue (is_known_shut answer)
EndsBy N M store Input before after old new = FindsNoClock N.events before after × (new ≡ old)
EndsBy N M store _ before after old new = ⊥

-- One more connection, or the end of serving.
abbrev pub TakesTurn : {S T R W : Type 0} → Hosting T R W → Meaning S → Standing S → T → T → DeskOf S → DeskOf S → Result (Unit {0}) ProgramFault → Type 0
TakesTurn N M store before after old new (Ok done) = IsOneTurn N M store before after old new
TakesTurn N M store before after old new (Err fault) = EndsBy N M store fault before after old new

-- All connections were taken, or fewer and then the end with its fault.
abbrev pub ServesInTurn : {S T R W : Type 0} → Hosting T R W → Meaning S → Standing S → ℕ → T → T → DeskOf S → DeskOf S → Result (Unit {0}) ProgramFault → Type 0
ServesInTurn N M store count before after old new (Ok done) = GoesOnFor N M store count before after old new
ServesInTurn {S = S} {T = T} N M store count before after old new (Err fault) =
    (n : ℕ) × (n < count) × (host : T) × (mid : DeskOf S) × GoesOnFor N M store n before host old mid × EndsBy N M store fault host after mid new

-- These are the steps of all connections that were served, in their order.
abbrev pub AreOfServing : {S T R W : Type 0} (N : Hosting T R W) (M : Meaning S) (store : Standing S) (count : ℕ) (before after : T) (old new : DeskOf S)
    (result : Result (Unit {0}) ProgramFault) → ServesInTurn N M store count before after old new result → Held → List Step → Type 0
AreOfServing N M store count before after old new (Ok done) it h steps = AreOfTurns N M store count before after old new it h steps
AreOfServing N M store count before after old new (Err Store) it h steps =
    (earlier : List Step) × (last : List Step) × (steps ≡ earlier ++ last)
    × AreOfTurns N M store it.0 before it.2 old it.3 it.4 h earlier
    × AreOfConnection N M it.2 after it.3 it.5.1.served it.5.1.one (office_left office_answers h earlier) last
AreOfServing N M store count before after old new (Err Input) it h steps = AreOfTurns N M store it.0 before it.2 old it.3 it.4 h steps
AreOfServing N M store count before after old new (Err _) it h steps = ⊥

-- Connections were served in turn (`ServesInTurn`), by at most so many steps. These are the steps of the connections, in their order: each connection's response
-- is that of its step. The desk went through the same steps.
abbrev pub ServesSteps : {S T R W : Type 0} → Hosting T R W → Meaning S → Standing S → ℕ → T → T → DeskOf S → DeskOf S → Result (Unit {0}) ProgramFault → Type 0
ServesSteps N M store count before after old new result =
    (turns : ServesInTurn N M store count before after old new result)
    × (M.honest new.shelf → (h : Held) → StandsAs M old h
    → (steps : List Step) × (length steps ≤ count) × AreOfServing N M store count before after old new result turns h steps × WentThrough M old new h steps)

-- An office was served at 127.0.0.1 and this port. No other host was opened: the one opening leads from the network before to the network after. If the port isn't
-- free, the result is `Input` and nothing changed. Otherwise this many connections were served in turn, or fewer with a fault (`ServesSteps`).
abbrev pub ServesAt : {S X T R W : Type 0} → (X → SocketAddrV4 → Option T → X → Type 0) → Hosting T R W → Meaning S → Standing S → X → X → ℕ → ℕ → DeskOf S → DeskOf S → Result (Unit {0}) ProgramFault → Type 0
ServesAt {T = T} binds N M store network bound port count old new result =
    (address : SocketAddrV4) × IsLoopbackAt port address
    × ((binds network address None bound × (result ≡ Err Input) × (new ≡ old))
    ⊎ ((host : T) × (last : T) × binds network address (Some host) bound × ServesSteps N M store count host last old new result))

-- These are the steps of all connections to an office that was served at a port, in their order: none if the port wasn't free.
abbrev pub AreOfServingAt : {S X T R W : Type 0} (binds : X → SocketAddrV4 → Option T → X → Type 0) (N : Hosting T R W) (M : Meaning S) (store : Standing S) (network bound : X) (port count : ℕ)
    (old new : DeskOf S) (result : Result (Unit {0}) ProgramFault) → ServesAt binds N M store network bound port count old new result → Held → List Step → Type 0
AreOfServingAt binds N M store network bound port count old new result (address, here, inl none) h steps = steps ≡ []
AreOfServingAt binds N M store network bound port count old new result (address, here, inr (host, last, opens, serves)) h steps =
    AreOfServing N M store count host last old new result serves.0 h steps
