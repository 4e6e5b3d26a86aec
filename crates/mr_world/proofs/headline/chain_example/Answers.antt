use Rattle.mr_world.proofs.ChainExampleLemmas.{chain_example_happens}
use Rattle.mr_world.proofs.headline.chain_example.Goals as goal

pub returns : goal.returns
returns c = chain_example_happens
