use Rattle.year_model.proofs.BooksBalance.{books_balance}
use Rattle.year_model.proofs.laws.books_balance.Goals as goal

pub returns : goal.returns
returns c = books_balance
