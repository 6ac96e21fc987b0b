-- The computer that serves an office: its address, the connections that come there, and its clock.
use Rattle.std.specs.Prelude.{◌≡◌, ⊤, ℕ, ◌/◌, min, List, [], ◌∷◌, Option, Some, None, Result, Ok, Err}
use Rattle.std.specs.Net.Addr.{ipv4_octets}
use Rattle.std.specs.Net.Socket.{v4_ip, v4_port}
use Rattle.std.specs.declared.net.socket_addr.SocketAddrV4.{SocketAddrV4}
use Rattle.office_values.specs.Moments.{last_moment}
use Rattle.office_wire.specs.declared.fault.RunFault.{RunFault}
use Rattle.procure_config.specs.declared.fault.ProgramFault.{ProgramFault}
use Rattle.procure_config.specs.declared.fault.ProgramFault.TheVariants.{Input}

-- The events of a host, by its state before and after them.
pub record HostEvents (T R W : Type 0) : Type 1 where
  -- It takes the next connection, with a reader and a writer, or none if a socket failed.
  pub takes : T → Option (R × W) → T → Type 0
  -- Its clock shows this many nanoseconds since 1970-01-01T00:00:00Z, or none if it can't be read.
  pub tells : T → Option ℕ → T → Type 0
  -- It closes a connection, which left this writer and ended with this result.
  pub closes : T → W → Result ⊤ RunFault → T → Type 0

-- The events of a host, the bytes that a reader still has, and the bytes that a writer got.
pub record Hosting (T R W : Type 0) : Type 1 where
  pub events : HostEvents T R W
  pub remaining : R → Option (List ℕ)
  pub contents : W → Option (List ℕ)

abbrev pub hosting : {T R W : Type 0} → HostEvents T R W → (R → Option (List ℕ)) → (W → Option (List ℕ)) → Hosting T R W
hosting events remaining contents = record { events = events; remaining = remaining; contents = contents }

-- The moment that is this many nanoseconds after 1970-01-01T00:00:00Z, without parts of a second. It is the last moment there is if it would be later.
abbrev pub clock_moment : ℕ → ℕ
clock_moment nanos = min (nanos / 1000000000) last_moment

-- The clock was read once. The result is its moment, or `Input` if it couldn't be read.
abbrev pub TellsMoment : {T R W : Type 0} → HostEvents T R W → T → T → Result ℕ ProgramFault → Type 0
TellsMoment E old new (Ok moment) = (nanos : ℕ) × E.tells old (Some nanos) new × (moment ≡ clock_moment nanos)
TellsMoment E old new (Err Input) = E.tells old None new
TellsMoment E old new (Err _) = ⊥

-- The address 127.0.0.1 (RFC 1122, section 3.2.1.3) with this port.
abbrev pub IsLoopbackAt : ℕ → SocketAddrV4 → Type 0
IsLoopbackAt port address = (ipv4_octets (v4_ip address) ≡ 127 ∷ 0 ∷ 0 ∷ 1 ∷ []) × (v4_port address ≡ port)
