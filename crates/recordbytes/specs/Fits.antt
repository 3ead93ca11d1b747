-- The ports that a record can hold: their parts find their places, and every number fits its field.
use Rattle.std.specs.Prelude.{◌<◌, ◌^◌}
use Rattle.std.specs.Int.Signed.{mag}
use Rattle.table.specs.declared.Header.{Header}
use Rattle.machine.specs.declared.Frame.{Frame}
use Rattle.machine.specs.declared.Wire.{Wire}
use Rattle.machine.specs.declared.Wire.TheVariants.{Free, Sending}
use Rattle.machine.specs.State.{Instant, never, at, State, Placed}
use Rattle.words.specs.Words.{Every, Word}
use Rattle.rowbytes.specs.Fits.{RowFits}

pub record HeaderFits (h : Header) : Type 0 where
  pub idlea : h.idlea < 2 ^ 32
  pub idleb : h.idleb < 2 ^ 32
  pub payload : h.payload < 2 ^ 16

pub record FrameFits (f : Frame) : Type 0 where
  pub source : f.source < 2 ^ 32
  pub size : f.size < 2 ^ 32
  pub taken : Word f.taken

abbrev pub InstantFits : Instant → Type 0
InstantFits never = Unit {0}
InstantFits (at k) = Word k

abbrev pub WireFits : Wire → Type 0
WireFits Free = Unit {0}
WireFits (Sending f left) = FrameFits f × (left < 2 ^ 32)

-- A credit is −2 ^ 63 to 2 ^ 63 − 1: `mag` of −(n + 1) is n.
pub record Numbered (s : State) : Type 0 where
  pub header : HeaderFits s.table.header
  pub rows : Every RowFits s.table.rows
  pub bounds : Every Word s.bounds
  pub clock : Word s.clock
  pub credita : mag s.credita < 2 ^ 63
  pub creditb : mag s.creditb < 2 ^ 63
  pub a : Every FrameFits s.a
  pub b : Every FrameFits s.b
  pub best : Every FrameFits s.best
  pub last : Every InstantFits s.last
  pub wire : WireFits s.wire

pub record Fits (s : State) : Type 0 where
  pub placed : Placed s
  pub numbered : Numbered s
