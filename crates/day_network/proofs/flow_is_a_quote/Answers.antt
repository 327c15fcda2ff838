use Rattle.day_network.proofs.DayQuotes.{flow_quotes}
use Rattle.day_network.proofs.Right.{quote_right, quote_exists}
use Rattle.day_network.proofs.flow_is_a_quote.Goals as goal

pub returns : goal.returns
returns c = record { quoted = flow_quotes; right = quote_right; exists = quote_exists }
