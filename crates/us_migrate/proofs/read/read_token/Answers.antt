use Rattle.std.proofs.Common.{◌≡◌, ◌∙◌, sym}
use Rattle.us_migrate.proofs.Encoded.{reads_tokens, token_found}
use Rattle.us_migrate.proofs.read.read_token.Goals as goal

pub returns-clause-found : goal.returns-clause-found
returns-clause-found c = token_found c.args.shape c.args.input.now c.args.at c.requires (λ i. (c.type_inv.input i).fits) c.token_in.result c.token_in.ensures

pub returns-clause-again : goal.returns-clause-again
returns-clause-again c = λ token next fits stands. c.token_in.ensures ∙ (reads_tokens c.args.shape c.requires).again c.args.input.now c.args.at token next fits stands

pub returns-clause-none : goal.returns-clause-none
returns-clause-none c = λ nothing token next fits stands. (reads_tokens c.args.shape c.requires).none c.args.input.now c.args.at (sym c.token_in.ensures ∙ nothing) token next fits stands
