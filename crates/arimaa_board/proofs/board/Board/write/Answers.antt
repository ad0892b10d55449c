use Rattle.std.proofs.Common.{◌/◌, ◌%◌, refl}
use Rattle.arimaa_board.proofs.Placing.{IsWritten, planes-set, squares_of_planes-set}
use Rattle.arimaa_board.proofs.board.Board.write.Goals as goal

module _ (c : goal.After-self-4-1) where
  a : IsWritten c.with_bit-self-inside.result c.self.inside.a c.args.n (c.args.code % 2)
  a = record { fits = c.with_bit-self-inside.type_inv; here = c.with_bit-self-inside.ensures.here; others = c.with_bit-self-inside.ensures.others }

  b : IsWritten c.with_bit-self-inside-2.result c.self.inside.b c.args.n (c.args.code / 2 % 2)
  b = record { fits = c.with_bit-self-inside-2.type_inv; here = c.with_bit-self-inside-2.ensures.here; others = c.with_bit-self-inside-2.ensures.others }

  k : IsWritten c.with_bit-self-inside-3.result c.self.inside.c c.args.n (c.args.code / 4 % 2)
  k = record { fits = c.with_bit-self-inside-3.type_inv; here = c.with_bit-self-inside-3.ensures.here; others = c.with_bit-self-inside-3.ensures.others }

  s : IsWritten c.with_bit-self-inside-4.result c.self.inside.s c.args.n (c.args.code / 8)
  s = record { fits = c.with_bit-self-inside-4.type_inv; here = c.with_bit-self-inside-4.ensures.here; others = c.with_bit-self-inside-4.ensures.others }

pub invariant_of-self : goal.invariant_of-self
invariant_of-self c = planes-set _ _ _ _ _ _ _ _ _ _ c.self.invariant c.requires.place c.requires.small c.requires.valid (a c) (b c) (k c) (s c)

pub returns : goal.returns
returns c =
    rw (← c.self.view_is)
    (squares_of_planes-set _ _ _ _ _ _ _ _ _ _ c.self.invariant c.requires.place c.requires.small c.requires.valid (a c) (b c) (k c) (s c) _ refl)
