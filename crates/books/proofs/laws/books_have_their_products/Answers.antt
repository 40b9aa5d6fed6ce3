use Rattle.books.proofs.Listed.{books_have_their_products}
use Rattle.books.proofs.laws.books_have_their_products.Goals as goal

pub returns : goal.returns
returns c = books_have_their_products
