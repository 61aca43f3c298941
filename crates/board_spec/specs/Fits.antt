-- "6 board of another length or a stored number outside its range": a board that passes 6 passes it after every call, reached from zero bytes or not.
-- Statements only; `passes_on` in proofs/Fits.antt proves them.
use Rattle.std.specs.Prelude.{◌≡◌, true}
use Rattle.schedule.specs.Schedule.{Call}
use Rattle.board_spec.specs.Board.{board_fits}
use Rattle.board_spec.specs.Run.{Bytes, Calls, did, board_after}

pub record PassesOn : Type 0 where
  -- any call with any arguments, refused or not
  pub one_call : (b : Bytes) (c : Call Bytes) → board_fits b ≡ true → board_fits (did b c).board ≡ true
  pub any_calls : (b : Bytes) (cs : Calls) → board_fits b ≡ true → board_fits (board_after b cs) ≡ true
