-- What the proofs of the report share.
mod Plain
