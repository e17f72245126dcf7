mod Firsts
mod Answering
mod Checking
mod Placing
