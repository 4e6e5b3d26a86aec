use Rattle.mr_world.proofs.ExampleLemmas.{example_happens}
use Rattle.mr_world.proofs.headline.example.Goals as goal

pub returns : goal.returns
returns c = example_happens
