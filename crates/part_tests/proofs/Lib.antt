mod MadeLemmas
mod CountLemmas
