use Rattle.cert_check.specs.Index.{AreKeys, AreRepeats}
use Rattle.cert_check.proofs.index.keys_of.Given as goal

abbrev pub invariant-pairs : goal.invariant-pairs
invariant-pairs l = record {
  keys : AreKeys l.relation l.lefts l.rights l.pair-index l.keys;
  repeats : AreRepeats l.relation l.pair-index l.repeated.items;
}
