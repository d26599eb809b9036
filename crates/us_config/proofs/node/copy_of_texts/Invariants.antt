use Rattle.std.proofs.Common.{◌≡◌, take}
use Rattle.us_config.proofs.node.copy_of_texts.Given as goal

-- the first texts are copied
abbrev pub invariant-loop-text : goal.invariant-loop-text
invariant-loop-text l = l.copy ≡ take l.text-index l.texts
