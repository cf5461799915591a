use Rattle.starts.specs.Starts.{head_from, alphabet_in}
use Rattle.starts.proofs.head_bits.Goals as goal

pub index_bits-requires : goal.index_bits-requires
index_bits-requires c = rw c.alphabet_at.ensures (alphabet_in c.args.t.most c.args.p c.requires.1 c.requires.2)

pub returns : goal.returns
unfolding head_from
returns c = rw (c.flag_bits-flag.ensures, c.index_bits.ensures, c.alphabet_at.ensures)
