-- Document 01, "The walk": what the walk's machine keeps.
use Rattle.std.specs.Prelude.{Bool, List, ℕ}
use Rattle.command.specs.declared.kinds.Kind.{Kind}
use Rattle.registers.specs.declared.Area.{Area}
use Rattle.registers.specs.declared.Registers.{Registers}
use Rattle.registers.specs.declared.luts.Luts.{Luts}
use Rattle.ram.specs.declared.Cursor.{Cursor}
use Rattle.ram.specs.Write.{written}
use Rattle.waveform.specs.declared.Waveform.{Waveform}

-- a command whose data bytes are taken or counted: its byte, its kind, the data bytes so far, and where the next pixel byte goes
pub record Order : Type 0 where
  pub byte : ℕ
  pub kind : Kind
  pub count : ℕ
  pub cursor : Cursor

-- whose data bytes come now: of no command since making or a reset by pin; of one that is ignored; of a command under way
pub data Hearing : Type 0 where
  none ignored : Hearing
  under : Order → Hearing

-- what a refresh's start notes: its time, the tables, levels, period and VCOM's rule, the written area, and each pixel's number
pub record Noted : Type 0 where
  pub since : ℕ
  pub wave : Waveform
  pub area : Area
  pub numbers : List ℕ

-- what an operation does: 04, 02, 07, the resets by 00 and by pin, 12
pub data Task : Type 0 where
  powers_up powers_down falls_asleep resets_softly resets_hardly : Task
  drives : Noted → Task

-- the running operation, with its end
pub data Job : Type 0 where
  idle : Job
  until : ℕ → Task → Job

pub record Machine : Type 0 where
  pub clock : ℕ
  -- the reset line is asserted; deep sleep; the supplies are up
  pub low : Bool
  pub sleep : Bool
  pub power : Bool
  pub regs : Registers
  pub luts : Luts
  pub hears : Hearing
  pub old : List ℕ
  pub new : List ℕ
  pub job : Job
  -- rule 2 of VCOM is in force
  pub by_frame : Bool
